use Rattle.std.proofs.Common.{List, ℕ, ◌∷◌, sym, subst}
use Rattle.mc_calls.specs.Code.{tally_code}
use Rattle.mc_calls.specs.declared.call_reply.CallReply.{CallReply}
use Rattle.zy_journal_reader.specs.Found.{HasReply}
use Rattle.zy_journal_reader.proofs.FoundLemmas.{tally_found}
use Rattle.zy_journal_reader.proofs.records.replies.tally.Goals as goal

pub returns : goal.returns
returns c =
    let rest : List ℕ = c.in_ok-items.rest.now in
    record {
      value = subst (λ (reply : CallReply). HasReply (tally_code ∷ c.args.bytes.now) reply rest) (sym c.tally.ensures.value)
          (tally_found c.in_ok-gets.gets c.in_ok-sets.sets c.in_ok-hits.hits c.in_ok-misses.misses c.in_ok-items.items
          c.args.bytes.now c.in_ok-gets.after_gets.now c.in_ok-sets.after_sets.now c.in_ok-hits.after_hits.now c.in_ok-misses.after_misses.now rest
          c.in_ok-gets.ensures.value c.in_ok-sets.ensures.value c.in_ok-hits.ensures.value c.in_ok-misses.ensures.value c.in_ok-items.ensures.value
          c.in_ok-gets.ensures.fits c.in_ok-sets.ensures.fits c.in_ok-hits.ensures.fits c.in_ok-misses.ensures.fits c.in_ok-items.ensures.fits);
    }
