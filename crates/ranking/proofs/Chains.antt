-- Where the sets tell what the system can do, the calls between entries are the system's: paths are chains.
use Rattle.std.proofs.Common.{◌≡◌, ℕ, ◌%◌, List, Some, None, refl, subst, arith}
use Rattle.pushdown.specs.System.{Inside, Entered, enters, Calls, Chain, stop, link}
use Rattle.pushdown.specs.System as pushdown
use Rattle.saturation.specs.System.{second, proc, words, Fine, Starts, TellsInside}
use Rattle.saturation.proofs.Complete.{below, keeps, begins}
use Rattle.ranking.specs.Calls.{callee, Link, Path, Height}
use Rattle.ranking.specs.Calls as calls
use Rattle.ranking.specs.Ranks.{Ranked}

module _ {g : List ℕ} {k t root : ℕ} (fine : Fine g k t) (starts : Starts g k t root) (o : List ℕ) (told : TellsInside g k t root o) where
  to_link : {e d : ℕ} → Entered (words g k) root e → Calls (words g k) e d → Link g k t o e d
  to_link {e} h c =
      let b = begins fine starts h in
      let n = keeps fine b.0 c.2 in
      record {
        base = proc g c.0;
        value = e % k;
        node = c.0;
        small = below fine e;
        at = record { within = n.0; calls = c.3.0; whose = refl; has = (told c.0 (e % k) n.0 (omega (arith, below fine e, fine.few))).1 (e, refl, h, c.2) };
        from = omega (arith, b.1, n.1);
        to = c.3.1;
      }

  of_link : {e d : ℕ} → Link g k t o e d → Calls (words g k) e d
  of_link {e} {d} l =
      let c = (told l.node l.value l.at.within (omega (arith, l.small, fine.few))).0 l.at.has in
      let b = begins fine starts c.2 in
      let n = keeps fine b.0 c.3 in
      let same : c.0 ≡ e = omega (arith, b.1, n.1, c.1, l.from, l.at.whose) in
      (l.node, second g l.node, subst (λ z. Inside (words g k) z l.node) same c.3, (l.at.calls, l.to, refl))

  to_path : {e m : ℕ} → Entered (words g k) root e → Chain (words g k) e m → Path g k t o e m
  to_path h stop = calls.stop
  to_path h (link c q) = calls.link (to_link h c) (to_path (enters h c.2 c.3) q)

  of_path : {e m : ℕ} → Path g k t o e m → Chain (words g k) e m
  of_path calls.stop = stop
  of_path (calls.link l q) = link (of_link l) (of_path q)

  pub ranked : (r : ℕ) → Height g k t o root r → Ranked g k root (Some r)
  ranked r h = (of_path h.path, λ m q. h.most m (to_path pushdown.first q))

  pub unranked : ((d : ℕ) → Path g k t o root d) → Ranked g k root None
  unranked f d = of_path (f d)
