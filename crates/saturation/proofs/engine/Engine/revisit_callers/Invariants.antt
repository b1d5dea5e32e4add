-- `revisit_callers`: the places that call the procedure, one after the other.
use Rattle.saturation.specs.Steps.{Still}
use Rattle.saturation.proofs.Sites.{SitesPassed}
use Rattle.saturation.proofs.engine.Engine.revisit_callers.Given as goal

abbrev pub invariant-loop-site : goal.invariant-loop-site
invariant-loop-site l = Still l.initial.self l.self × SitesPassed l.initial.self.system.graph.now l.initial.self.system.sites.now l.initial.self.system.shared l.x l.initial.self.sets.now l.initial.self.marks.now l.self.marks.now l.fn.sites.start l.site
