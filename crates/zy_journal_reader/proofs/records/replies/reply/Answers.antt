use Rattle.std.proofs.Common.{◌≡◌, ℕ, ◌≤◌, false, List, sym, subst, arith}
use Rattle.std.specs.Prelude.{◌==◌}
use Rattle.std.proofs.lemmas.Bool.Decides.{nat_tests}
use Rattle.mc_calls.specs.Code.{hit_code, number_code, tally_code, last_reply_code}
use Rattle.mc_calls.specs.declared.call_reply.CallReply.{CallReply}
use Rattle.zy_journal_reader.specs.Found.{HasReply}
use Rattle.zy_journal_reader.proofs.FoundLemmas.{plain_found}
use Rattle.zy_journal_reader.proofs.records.replies.reply.Goals as goal

pub returns-else-code-eq-TALLY_CODE : goal.returns-else-code-eq-TALLY_CODE
returns-else-code-eq-TALLY_CODE c =
    let code : ℕ = c.in_ok-code.code.now in
    let rest : List ℕ = c.in_ok-code.rest.now in
    let zero = c.if-code-eq0.false in
    let above = c.if-code-gt-LAST_REPLY_CODE.false in
    let hit = c.if-code-eq-HIT_CODE.false in
    let number = c.if-code-eq-NUMBER_CODE.false in
    let tallied = c.if-code-eq-TALLY_CODE.false in
    let some : 1 ≤ code = grind (arith, nat_tests, zero) in
    let most : code ≤ last_reply_code = grind (arith, nat_tests, above) in
    let no_hit : (code == hit_code) ≡ false = grind (arith, nat_tests, hit) in
    let no_number : (code == number_code) ≡ false = grind (arith, nat_tests, number) in
    let no_tally : (code == tally_code) ≡ false = grind (arith, nat_tests, tallied) in
    record {
      value = subst (λ (reply : CallReply). HasReply c.args.bytes.now reply rest) (sym c.plain.ensures.value)
          (plain_found code c.args.bytes.now rest c.in_ok-code.ensures.cases.0 some most no_hit no_number no_tally);
    }
