use Rattle.std.proofs.Common.{refl, sym, ◌∙◌, take}
use Rattle.mc_kind.proofs.MarkedLemmas.{meta_whole, meta_refused, set_failed}
use Rattle.mc_kind.proofs.marked.first_meta.Goals as goal

pub returns-then-is_line_with : goal.returns-then-is_line_with
returns-then-is_line_with c =
    let plain = c.if-not-is_plain.ensures.value refl in
    let hidden = sym c.shows_value.ensures.value ∙ c.if-shows_value.false in
    record {
      value = meta_whole c.args.meta.now c.args.bytes.now c.in-Some.length plain hidden c.in-Some.ensures.within.1 c.in-Some.ensures.some
          (λ error. set_failed c.args.meta.now (take c.in-Some.length c.args.bytes.now) plain (c.is_set.ensures.value c.if-is_set.true) (c.is_line_with.ensures.value.0 c.if-is_line_with.true));
    }

pub returns-then-is_coded : goal.returns-then-is_coded
returns-then-is_coded c =
    let plain = c.if-not-is_plain.ensures.value refl in
    let hidden = sym c.shows_value.ensures.value ∙ c.if-shows_value.false in
    record {
      value = meta_whole c.args.meta.now c.args.bytes.now c.in-Some.length plain hidden c.in-Some.ensures.within.1 c.in-Some.ensures.some
          (λ error. let a = c.is_error_line.ensures.value.1 error in let b = c.if-is_error_line.false in absurd (cc));
    }

pub returns-else-is_coded : goal.returns-else-is_coded
returns-else-is_coded c =
    let plain = c.if-not-is_plain.ensures.value refl in
    let hidden = sym c.shows_value.ensures.value ∙ c.if-shows_value.false in
    record {
      value = meta_refused c.args.meta.now c.args.bytes.now c.in-Some.length plain hidden c.in-Some.ensures.some (λ one. let a = c.is_coded.ensures.value.1 one in let b = c.if-is_coded.false in absurd (cc))
          (λ error. let a = c.is_error_line.ensures.value.1 error in let b = c.if-is_error_line.false in absurd (cc));
    }
