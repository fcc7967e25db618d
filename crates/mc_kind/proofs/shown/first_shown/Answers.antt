use Rattle.std.proofs.Common.{refl, arith}
use Rattle.mc_kind.proofs.ShownLemmas.{missing_whole, valued_whole, shown_refused}
use Rattle.mc_kind.proofs.shown.first_shown.Goals as goal

pub returns-then-is_line_with : goal.returns-then-is_line_with
returns-then-is_line_with c = record {
  value = missing_whole c.args.meta.now c.args.bytes.now c.in-Some.length c.requires.plain c.requires.shows c.in-Some.ensures.within.1 c.in-Some.ensures.some (c.is_line_with.ensures.value.0 c.if-is_line_with.true)
      (λ error. let a = c.is_error_line.ensures.value.1 error in let b = c.if-is_error_line.false in absurd (cc));
}

pub returns-then-not-is_line_with : goal.returns-then-not-is_line_with
returns-then-not-is_line_with c = record {
  value = shown_refused c.args.meta.now c.args.bytes.now c.in-Some.length c.requires.plain c.requires.shows c.in-Some.ensures.some
      (λ one. let a = c.is_line_with.ensures.value.1 one in let b = c.if-is_line_with.false in absurd (cc))
      (λ one. let a = c.if-not-is_line_with.ensures.value.1 one in absurd (cc))
      (λ error. let a = c.is_error_line.ensures.value.1 error in let b = c.if-is_error_line.false in absurd (cc));
}

pub returns-in-Some-value_size : goal.returns-in-Some-value_size
returns-in-Some-value_size c =
    let low = c.in-Some.ensures.within.1 in
    let more = c.in-Some-value_size.ensures.within in
    record {
      value = valued_whole c.args.meta.now c.args.bytes.now c.in-Some.length c.in-Some-value_size.more c.requires.plain c.requires.shows low (omega (arith, low, more)) c.in-Some.ensures.some
          (c.if-not-is_line_with.ensures.value.0 refl) c.in-Some-value_size.ensures.value
          (λ error. let a = c.is_error_line.ensures.value.1 error in let b = c.if-is_error_line.false in absurd (cc));
    }
