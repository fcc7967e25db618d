use Rattle.std.proofs.Common.{refl, sym, subst}
use Rattle.zy_home.specs.Link.{Link, LinkStands}
use Rattle.zy_home.proofs.LinkLemmas.{stands_close}
use Rattle.zy_home.proofs.link.Link.close.Goals as goal

pub returns-clause-stands : goal.returns-clause-stands
returns-clause-stands c s h =
    stands_close _ _ s (subst (λ (l : Link). LinkStands l s) (sym c.self.view_is) h) refl refl c.in-Ok.ensures.items c.new.ensures.empty refl
