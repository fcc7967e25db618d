use Rattle.std.proofs.Common.{List, ℕ, ◌∷◌, sym, subst}
use Rattle.mc_calls.specs.Code.{hit_code}
use Rattle.mc_calls.specs.declared.call_reply.CallReply.TheVariants.{Hit}
use Rattle.zy_journal_reader.specs.Found.{HasReply}
use Rattle.zy_journal_reader.proofs.FoundLemmas.{hit_found}
use Rattle.zy_journal_reader.proofs.records.replies.hit.Goals as goal

pub returns-in-Ok : goal.returns-in-Ok
returns-in-Ok c =
    let flags : ℕ = c.in_ok-flags.flags in
    let unique : ℕ = c.in_ok-unique.unique in
    let rest : List ℕ = c.in_ok-found.rest.now in
    record {
      value = subst (λ (value : List ℕ). HasReply (hit_code ∷ c.args.bytes.now) (Hit flags unique value) rest) (sym c.in-Ok.ensures.value)
          (hit_found flags unique c.in_ok-found.found.now c.args.bytes.now c.in_ok-flags.after_flags.now c.in_ok-unique.after_unique.now rest c.in_ok-flags.ensures.value c.in_ok-unique.ensures.value c.in_ok-found.ensures.value
          c.in_ok-flags.ensures.fits c.in_ok-unique.ensures.fits c.in_ok-found.ensures.within);
    }
