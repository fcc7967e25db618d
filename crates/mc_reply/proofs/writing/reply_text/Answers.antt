use Rattle.std.proofs.Common.{◌≡◌, List, ℕ, ◌++◌, length, ap, sym, subst, ◌∙◌}
use Rattle.mc_parse.specs.declared.command.Command.{Command}
use Rattle.mc_parse.specs.Calls.{calls_of}
use Rattle.std.specs.Prelude.{OnOk}
use Rattle.mc_reply.specs.Text.{text}
use Rattle.mc_reply.specs.StatsText.{stats_text}
use Rattle.mc_reply.specs.Answers.{AnswerEach}
use Rattle.mc_reply.proofs.ItemLemmas.{answered}
use Rattle.mc_reply.proofs.writing.reply_text.Goals as goal

pub append_items-requires : goal.append_items-requires
append_items-requires c =
    let each = subst (λ (command : Command). AnswerEach (calls_of c.requires.answers.shards command) c.args.replies.now) c.in-Get.is c.requires.answers.each in
    record { same = ap length c.items.ensures.value ∙ answered c.requires.answers.shards _ c.args.replies.now each ∙ sym (ap length c.items-replies.ensures.value) }

pub returns-in-Stats-clause-ok : goal.returns-in-Stats-clause-ok
unfolding text
returns-in-Stats-clause-ok c =
    subst (λ (l : List ℕ). OnOk c.append_stats.result (c.append_stats.new.out ≡ c.args.out.now ++ l))
    (ap stats_text c.items-replies.ensures.value ∙ ap (λ (command : Command). text command c.args.replies.now) (sym c.in-Stats.is)) c.append_stats.ensures.ok
