-- The second level of marks: each word with a mark is marked itself.
use Rattle.std.proofs.Common.{◌≡◌, ℕ, ◌+◌, ◌-◌, ◌/◌, ◌%◌, List, get_or, sym, subst, arith}
use Rattle.saturation.specs.Bits.{Bit}
use Rattle.saturation.specs.Marks.{At, Levels, More, Summarized, SummarizedBut, In, NodeTaken, WordTaken}
use Rattle.saturation.proofs.Nodes.{no_bit}

-- a word with no bit
pub word_bit : (m : List ℕ) (i y : ℕ) → get_or m i 0 ≡ 0 → Bit m i y → ⊥
unfolding Bit
word_bit m i y z o = no_bit (get_or m i 0) y z o

-- the word at c is empty, so each word with a mark is marked
pub summary_all : (m : Levels) (c : ℕ) → get_or m.nodes c 0 ≡ 0 → SummarizedBut c m → Summarized m
summary_all m c z p n o = p n (λ q. word_bit m.nodes (n / 32) (31 - n % 32) (subst (λ i. get_or m.nodes i 0 ≡ 0) (sym q) z) o) o

-- a mark is taken from the word at c
pub summary_take : {m l : Levels} {c n : ℕ} → NodeTaken m l c n → SummarizedBut c m → SummarizedBut c l
summary_take tk p j d o = subst (λ t. At t (j / 32)) (sym tk.words) (p j d (tk.nodes.only j o))

-- the mark of the word at d is taken
pub summary_next : {m l : Levels} {d : ℕ} → WordTaken m l d → Summarized m → SummarizedBut d l
summary_next tk p j ne o = tk.words.1.kept (j / 32) ne (p j (subst (λ t. At t j) tk.nodes o))

-- no word is marked, so no node is
pub none_marked : (m : Levels) → Summarized m → ((i : ℕ) → get_or m.words i 0 ≡ 0) → (n : ℕ) → In m n → ⊥
none_marked m p f n o = word_bit m.words (n / 32 / 32) _ (f (n / 32 / 32)) (p n o)

-- marks are added
pub summary_more : {m l : Levels} → More m l → Summarized m → Summarized l
summary_more kept p n o = kept.summary (n / 32 + 1) (λ j _. p j) n (λ q. absurd (omega arith)) o
