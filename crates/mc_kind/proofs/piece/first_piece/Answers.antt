use Rattle.std.proofs.Common.{ap, sym, ◌∙◌, refl, take}
use Rattle.std.specs.Prelude.{option_map}
use Rattle.mc_answered.specs.Halved.{heading_seen}
use Rattle.mc_kind.proofs.ListingLemmas.{foreign_none, headless_none, heading_no_error, no_error_first, item_whole}
use Rattle.mc_kind.proofs.piece.first_piece.Goals as goal

pub returns-then-not-has_key : goal.returns-then-not-has_key
returns-then-not-has_key c =
    let headed = sym c.read_heading.ensures.value ∙ ap (option_map heading_seen) c.in-Some-read_heading.is in
    record {
      value = (
        foreign_none c.args.asked c.args.keys.now c.args.bytes.now c.in-Some.length (heading_seen c.in-Some-read_heading.heading) c.requires.words c.in-Some.ensures.some
            (λ one. let a = c.if-is_end.ensures.value.1 one in absurd (cc)) headed (λ there. c.if-not-has_key.ensures.no refl there),
        no_error_first c.args.bytes.now c.in-Some.length c.in-Some.ensures.some
            (heading_no_error c.args.asked (take c.in-Some.length c.args.bytes.now) (heading_seen c.in-Some-read_heading.heading) headed),
      );
    }

pub returns-in-Some-value_length : goal.returns-in-Some-value_length
returns-in-Some-value_length c =
    let headed = sym c.read_heading.ensures.value ∙ ap (option_map heading_seen) c.in-Some-read_heading.is in
    record {
      value = item_whole c.args.asked c.args.keys.now c.args.bytes.now c.text_from.result.now c.in-Some.length c.in-Some-value_length.more (heading_seen c.in-Some-read_heading.heading) c.in-Some.ensures.within.1 headed
          (c.if-not-has_key.ensures.yes refl) c.text_from.ensures.value c.in-Some-value_length.ensures.value.0 c.in-Some-value_length.ensures.value.1;
    }

pub returns-else-is_error_line : goal.returns-else-is_error_line
returns-else-is_error_line c =
    let headless = sym c.read_heading.ensures.value ∙ ap (option_map heading_seen) c.in-None.is in
    record {
      value = (
        headless_none c.args.asked c.args.keys.now c.args.bytes.now c.in-Some.length c.requires.words c.in-Some.ensures.some (λ one. let a = c.if-is_end.ensures.value.1 one in absurd (cc)) headless,
        no_error_first c.args.bytes.now c.in-Some.length c.in-Some.ensures.some (λ one. let a = c.if-is_error_line.ensures.value.1 one in absurd (cc)),
      );
    }
