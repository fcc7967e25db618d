use Rattle.std.proofs.Common.{ap, sym, ◌∙◌, ◌≡◌, ◌≤◌, List, ℕ, ◌+◌, ◌++◌, length, take, drop, subst, append_assoc}
use Rattle.std.proofs.lemmas.Bool.Decides.{Decides-eqb}
use Rattle.std.proofs.lemmas.List.{length-append}
use Rattle.std.proofs.lemmas.Slice.Eq.{strip_prefix_is, starts_is}
use Rattle.mc_reply.specs.Text.{line_end}
use Rattle.mc_answered.proofs.TextLemmas.{begins, begins_within, copied_is}
use Rattle.mc_answered.proofs.item.value_length.Goals as goal

pub returns-in-Some : goal.returns-in-Some
returns-in-Some c =
    let bytes = c.args.bytes.now in
    let value = c.args.value.now in
    let rest = c.in-Some.rest.now in
    let there = copied_is bytes value c.strip_prefix.result c.in-Some.rest (strip_prefix_is Decides-eqb bytes value c.strip_prefix.result c.strip_prefix.ensures.cases) c.in-Some.is in
    let ends = (starts_is Decides-eqb rest line_end c.starts_with.result c.starts_with.ensures.value).0 c.if-starts_with.true in
    let whole : bytes ≡ (value ++ line_end) ++ drop 2 rest = there ∙ ap (λ (t : List ℕ). value ++ t) ends ∙ sym (append_assoc value line_end (drop 2 rest)) in
    let long : length (value ++ line_end) ≡ length value + 2 = length-append value line_end in
    record {
      value = (
        subst (λ (n : ℕ). n ≤ length bytes) long (begins_within bytes (value ++ line_end) (drop 2 rest) whole),
        subst (λ (n : ℕ). take n bytes ≡ value ++ line_end) long (begins bytes (value ++ line_end) (drop 2 rest) whole),
      );
    }
