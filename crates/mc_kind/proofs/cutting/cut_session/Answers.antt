use Rattle.std.proofs.Common.{◌≡◌, inl, inr, ℕ, List, drop, length, true, false, true≢false, sym, ◌∙◌, subst, arith}
use Rattle.mc_answers.specs.Kinds.{IsErrorLine}
use Rattle.mc_kind.specs.Cutting.{AreTexts, AreFirstTexts, AreAllTexts}
use Rattle.mc_kind.specs.declared.text.Text.{Text}
use Rattle.mc_kind.specs.First.{IsWhole, IsRefused}
use Rattle.mc_kind.proofs.CutLemmas.{knows_more, refused_no_cut, refused_here, texts_found, front_found, all_at_end, all_of_all, goes_on_here}
use Rattle.mc_kind.proofs.cutting.cut_session.Goals as goal

pub returns-then-at-output : goal.returns-then-at-output
returns-then-at-output c =
    let commands = c.args.commands.now in
    let output = c.args.output.now in
    let texts = c.loop-index.texts.items in
    let k = c.loop-index.invariant in
    record {
      value = subst (λ (ts : List Text). AreTexts commands output ts × AreFirstTexts commands output ts × AreAllTexts commands output ts) (sym c.from_vec.ensures.value)
          (texts_found commands output c.loop-index.index c.loop-index.at texts k, front_found commands output c.loop-index.index c.loop-index.at texts k, all_at_end commands output c.loop-index.index c.loop-index.at texts k c.if-at-output.true);
    }

pub returns-in-Refused : goal.returns-in-Refused
returns-in-Refused c =
    let near = c.loop-index-test.true in
    let commands = c.args.commands.now in
    let output = c.args.output.now in
    let index = c.loop-index.index in
    let texts = c.loop-index.texts.items in
    let k = c.loop-index.invariant in
    let command = c.index-commands-index.result in
    let refused = subst (IsRefused command) c.text_from.ensures.value c.in-Refused.ensures.value in
    record {
      value = (
        refused_no_cut commands output index c.loop-index.at texts k command (omega arith) c.index-commands-index.is (λ same. c.if-at-output.false same) refused,
        refused_here commands output index c.loop-index.at texts k command (omega arith) c.index-commands-index.is (λ same. c.if-at-output.false same) refused,
      );
    }

pub returns-in-Unread : goal.returns-in-Unread
returns-in-Unread c =
    let commands = c.args.commands.now in
    let output = c.args.output.now in
    let texts = c.loop-index.texts.items in
    let k = c.loop-index.invariant in
    record {
      value = subst (λ (ts : List Text). AreTexts commands output ts × AreFirstTexts commands output ts) (sym c.from_vec-in-Unread.ensures.value)
          (texts_found commands output c.loop-index.index c.loop-index.at texts k, front_found commands output c.loop-index.index c.loop-index.at texts k);
    }

pub loop-index-preserved : goal.loop-index-preserved
loop-index-preserved c =
    let near = c.loop-index-test.true in
    knows_more c.args.commands.now c.args.output.now c.loop-index.index c.loop-index.at c.loop-index.texts.items c.loop-index.invariant c.index-commands-index.result (omega arith) c.index-commands-index.is
    c.in-Whole.length (subst (λ (bytes : List ℕ). IsWhole c.index-commands-index.result bytes c.in-Whole.length) c.text_from.ensures.value c.in-Whole.ensures.value)
    c.push.new.self.items c.in_ok-push-in-Whole.ensures.items

pub returns-then-is_over : goal.returns-then-is_over
returns-then-is_over c =
    let commands = c.args.commands.now in
    let output = c.args.output.now in
    let texts = c.loop-index.texts.items in
    let k = c.loop-index.invariant in
    let past = c.loop-index-test.false in
    let end = c.loop-index.auto.index-end in
    let last : c.loop-index.index ≡ length commands = omega (arith, past, end) in
    record {
      value = subst (λ (ts : List Text). AreTexts commands output ts × AreFirstTexts commands output ts × AreAllTexts commands output ts) (sym c.from_vec-then-is_over.ensures.value)
          (texts_found commands output c.loop-index.index c.loop-index.at texts k, front_found commands output c.loop-index.index c.loop-index.at texts k, all_of_all commands output c.loop-index.index c.loop-index.at texts k last);
    }

pub returns-else-is_over : goal.returns-else-is_over
returns-else-is_over c =
    let commands = c.args.commands.now in
    let output = c.args.output.now in
    let past = c.loop-index-test.false in
    let end = c.loop-index.auto.index-end in
    record {
      value = goes_on_here commands output c.loop-index.index c.loop-index.at c.loop-index.texts.items c.loop-index.invariant (omega (arith, past, end))
          (λ none. true≢false (sym (c.is_over.ensures.over (inl none)) ∙ c.if-is_over.false)) (λ line. true≢false (sym (c.is_over.ensures.over (inr line)) ∙ c.if-is_over.false));
    }
