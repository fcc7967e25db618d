use Rattle.std.proofs.Common.{refl, sym, subst}
use Rattle.zy_home.specs.Link.{Link, LinkStands}
use Rattle.zy_home.proofs.LinkLemmas.{stands_request}
use Rattle.zy_home.proofs.link.Link.segment.Goals as goal

-- the bytes were exactly one request
pub returns-in_ok-self-inside-in-Ok-clause-stands : goal.returns-in_ok-self-inside-in-Ok-clause-stands
returns-in_ok-self-inside-in-Ok-clause-stands c s h =
    let old = subst (λ (l : Link). LinkStands l s) (sym c.self.view_is) h in
    stands_request _ _ s old c.args.bytes c.in-Ok.frame (c.in-Ok.ensures.fed s.current old.framer) (c.in-Ok.ensures.due s.current old.framer)
    c.in_ok-offer_or_keep-in-Ok.ensures.ok refl c.in_ok-self-inside-in-Ok.ensures.value
