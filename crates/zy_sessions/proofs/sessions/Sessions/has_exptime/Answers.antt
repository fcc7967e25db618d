use Rattle.std.proofs.Common.{◌≡◌, Bool, true, sym, subst}
use Rattle.std.specs.Prelude.{◌↔◌}
use Rattle.zy_verdict.specs.Losses.{HasExptimeIn}
use Rattle.zy_sessions.proofs.sessions.Sessions.has_exptime.Goals as goal

pub returns : goal.returns
returns c = record {
  exact = λ count records h. subst (λ (b : Bool). (b ≡ true) ↔ HasExptimeIn records c.args.key.now) (sym c.contains.ensures) (h.lasting c.args.key.now);
}
