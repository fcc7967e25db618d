-- The entries of an explanation, made of those of a journal: what was said to the calls of a command.
use Rattle.std.specs.Prelude.{◌==◌, ◌&&◌, not, filter, All}
use Rattle.std.specs.List.{slice_get}
use Rattle.std.proofs.Common.{◌≡◌, ℕ, ◌+◌, ◌-◌, ◌<◌, ◌≤◌, Bool, true, false, List, [], ◌∷◌, length, map, Some, refl, ap, sym, ◌∙◌, subst, eq-eqb, ne_eqb, arith}
use Rattle.std.proofs.lemmas.List.Elements.{All-nil, All-cons, All-head, All-tail, All-filter, All-weaker, recursion_from_All}
use mathlib.Core.Logic.{dite}
use native.Mathlib.Decide.{ℕ_discrete}
use Rattle.mc_calls.specs.declared.entry.Entry.{Entry}
use Rattle.mc_calls.specs.Order.{of_connection}
use Rattle.mc_calls.specs.Replies.{replies_at}
use Rattle.mc_parse.specs.declared.command.Command.{Command}
use Rattle.mc_parse.specs.declared.shard_call.ShardCall.{ShardCall}
use Rattle.mc_parse.specs.Calls.{Due, due, due_of, dues_of, tagged, tag_of, calls_of}
use Rattle.mc_allows.specs.declared.said.Said.{Said}
use Rattle.mc_allows.specs.declared.said.Said.TheVariants.{Replied}
use Rattle.mc_answers.specs.Answer.{IsAnswer}
use Rattle.mc_reply.specs.Text.{text}
use Rattle.zy_run.specs.Commands.{commands_over}
use Rattle.zy_run.specs.Output.{commands_before}
use Rattle.zy_verdict.specs.Entries.{MadeCall, is_of_session, said_to}
use Rattle.zy_verdict.proofs.ListLemmas.{all_kept, none_kept, mapped_kept}
use Rattle.judge_laws.specs.Profile.{said_by}
use Rattle.judge_laws.proofs.ProfileLemmas.{text_is_answer}
use Rattle.judge_laws.proofs.SaidLemmas.{IsSaid, IsKeyed, replies_in, said_fits}
use Rattle.judge_laws.proofs.DueLemmas.{is_tally, IsNoTally, IsTally, Tallies, none, all, tallies, is_of_index, due_with_index}
use Rattle.judge_laws.proofs.PlaceLemmas.{session_at, IsIn, placed, is_session}
use Rattle.judge_laws.proofs.MadeLemmas.{name_of, made_from, made_kept, kept_twice, kept_same, map_twice}

-- ---- tallies among the calls of a command

-- whether an entry's call is no tally
abbrev counts : Entry → Bool
counts e = not (is_tally e.call)

no_tallies : (conn index part : ℕ) (calls : List ShardCall) (es : List Entry) → dues_of es ≡ tagged conn index part calls → All IsNoTally calls → All (λ (e : Entry). counts e ≡ true) es
no_tallies conn index part calls [] are plain = All-nil (λ (e : Entry). counts e ≡ true)
no_tallies conn index part [] (e ∷ es) are plain = absurd (cc)
no_tallies conn index part (call ∷ calls) (e ∷ es) are plain =
    let head : due_of e ≡ record { tag = tag_of conn index part; call = call } = cc in
    let tail : dues_of es ≡ tagged conn index (part + 1) calls = cc in
    All-cons (λ (x : Entry). counts x ≡ true) e es (ap (λ (d : Due). not (is_tally d.call.call)) head ∙ ap not (All-head IsNoTally call calls plain))
    (no_tallies conn index (part + 1) calls es tail (All-tail IsNoTally call calls plain))

only_tallies : (conn index part : ℕ) (calls : List ShardCall) (es : List Entry) → dues_of es ≡ tagged conn index part calls → All IsTally calls → All (λ (e : Entry). counts e ≡ false) es
only_tallies conn index part calls [] are bare = All-nil (λ (e : Entry). counts e ≡ false)
only_tallies conn index part [] (e ∷ es) are bare = absurd (cc)
only_tallies conn index part (call ∷ calls) (e ∷ es) are bare =
    let head : due_of e ≡ record { tag = tag_of conn index part; call = call } = cc in
    let tail : dues_of es ≡ tagged conn index (part + 1) calls = cc in
    All-cons (λ (x : Entry). counts x ≡ false) e es (ap (λ (d : Due). not (is_tally d.call.call)) head ∙ ap not (All-head IsTally call calls bare))
    (only_tallies conn index (part + 1) calls es tail (All-tail IsTally call calls bare))

-- what was said by those entries of a command that are no tallies
said_all : (shards conn index : ℕ) (command : Command) (es : List Entry) → Tallies shards command → dues_of es ≡ tagged conn index 0 (calls_of shards command)
    → map (λ (e : Entry). Replied e.reply) (filter counts es) ≡ said_by command (replies_in es)
said_all shards conn index command es (none said by plain) are =
    ap (map (λ (e : Entry). Replied e.reply)) (all_kept counts es (no_tallies conn index 0 (calls_of shards command) es are plain))
    ∙ map_twice Replied (λ (e : Entry). e.reply) es ∙ sym (by (replies_in es))
said_all shards conn index command es (all stats bare) are =
    ap (map (λ (e : Entry). Replied e.reply)) (none_kept counts es (only_tallies conn index 0 (calls_of shards command) es are bare)) ∙ ap (λ (c : Command). said_by c (replies_in es)) (sym stats)

-- ---- the entries of a command

regrouped : (a b c d : Bool) → ((a && b) && c) && d ≡ (a && ((b && c) && d))
regrouped true b c d = refl
regrouped false b c d = refl

module _ (shards conn session index : ℕ) (streams : ℕ → List (List ℕ)) where
  abbrev own : List (List ℕ)
  own = streams conn

  -- the number of the command in its connection
  abbrev number : ℕ
  number = commands_before session own + index

  -- an entry is of this command, by its name
  abbrev by_name : Entry → Bool
  by_name e = is_of_session conn session (name_of streams e.tag) && ((name_of streams e.tag).index == index)

  -- and by its tag
  abbrev by_tag : Entry → Bool
  by_tag e = (e.tag.conn == conn) && ((e.tag.index == number) && counts e)

  -- an entry of the connection is of one of its commands
  abbrev pub IsWithin : Entry → Type 0
  IsWithin e = e.tag.conn ≡ conn → e.tag.index < length (commands_over own)

  module _ (here : IsIn own session number) where
    places_agree : (e : Entry) → e.tag.index < length (commands_over own)
        → ((session_at own e.tag.index == session) && (e.tag.index - commands_before (session_at own e.tag.index) own == index)) ≡ (e.tag.index == number)
    places_agree e within = dite (ℕ_discrete (session_at own e.tag.index) session)
        (λ same.
        let at = placed own e.tag.index within in
        let from : commands_before session own ≤ e.tag.index = subst (λ (s : ℕ). commands_before s own ≤ e.tag.index) same at.from in
        ap (λ (b : Bool). b && (e.tag.index - commands_before (session_at own e.tag.index) own == index)) (eq-eqb (session_at own e.tag.index) session same)
        ∙ ap (λ (s : ℕ). e.tag.index - commands_before s own == index) same
        ∙ dite (ℕ_discrete e.tag.index number)
        (λ is. eq-eqb (e.tag.index - commands_before session own) index (omega (arith, is)) ∙ sym (eq-eqb e.tag.index number is))
        (λ other. ne_eqb (e.tag.index - commands_before session own) index (λ is. other (omega (arith, is, from))) ∙ sym (ne_eqb e.tag.index number other)))
        (λ other.
        ap (λ (b : Bool). b && (e.tag.index - commands_before (session_at own e.tag.index) own == index)) (ne_eqb (session_at own e.tag.index) session other)
        ∙ sym (ne_eqb e.tag.index number (λ is. other (is_session own session e.tag.index (subst (IsIn own session) (sym is) here)))))

    tests_agree : (e : Entry) → IsWithin e → (by_name e && counts e) ≡ by_tag e
    tests_agree e within = dite (ℕ_discrete e.tag.conn conn)
        (λ same.
        (λ i. (((e.tag.conn == conn) && (session_at (streams (same i)) e.tag.index == session))
        && (e.tag.index - commands_before (session_at (streams (same i)) e.tag.index) (streams (same i)) == index)) && counts e)
        ∙ regrouped (e.tag.conn == conn) (session_at own e.tag.index == session) (e.tag.index - commands_before (session_at own e.tag.index) own == index) (counts e)
        ∙ ap (λ (b : Bool). (e.tag.conn == conn) && (b && counts e)) (places_agree e (within same)))
        (λ other.
        let apart = ne_eqb e.tag.conn conn other in
        ap (λ (b : Bool). ((b && (session_at (streams e.tag.conn) e.tag.index == session)) && ((name_of streams e.tag).index == index)) && counts e) apart
        ∙ sym (ap (λ (b : Bool). b && ((e.tag.index == number) && counts e)) apart))

    -- the entries of the command
    abbrev mine : List Entry → List Entry
    mine es = filter (λ (e : Entry). e.tag.index == number) (of_connection conn es)

    said_is : (moment : ℕ → ℕ) (es : List Entry) → All IsWithin es → said_to conn session index (made_from streams moment 0 es) ≡ map (λ (e : Entry). Replied e.reply) (filter counts (mine es))
    said_is moment es within =
        ap (map (λ (e : MadeCall). e.said)) (kept_twice (λ (e : MadeCall). e.named.name.index == index) (λ (e : MadeCall). is_of_session conn session e.named.name) (made_from streams moment 0 es))
        ∙ made_kept streams moment (λ (e : MadeCall). is_of_session conn session e.named.name && (e.named.name.index == index)) by_name
        (λ (e : MadeCall). e.said) (λ (e : Entry). Replied e.reply) (λ at e. refl) (λ at e. refl) 0 es
        ∙ ap (map (λ (e : Entry). Replied e.reply))
        (kept_same (λ (e : Entry). by_name e && counts e) by_tag es (All-weaker IsWithin (λ (e : Entry). (by_name e && counts e) ≡ by_tag e) tests_agree es within)
        ∙ sym (kept_twice (λ (e : Entry). (e.tag.index == number) && counts e) (λ (e : Entry). e.tag.conn == conn) es)
        ∙ sym (kept_twice counts (λ (e : Entry). e.tag.index == number) (of_connection conn es)))

    module _ (es : List Entry) (command : Command) (keyed : IsKeyed command) (are : dues_of (of_connection conn es) ≡ due shards conn (commands_over own))
        (is : slice_get (commands_over own) number ≡ Some command) where
      mine_due : dues_of (mine es) ≡ tagged conn number 0 (calls_of shards command)
      mine_due =
          let start : 0 + number ≡ number = omega arith in
          mapped_kept due_of (is_of_index number) (of_connection conn es) ∙ ap (filter (is_of_index number)) are
          ∙ subst (λ (n : ℕ). filter (is_of_index n) (due shards conn (commands_over own)) ≡ tagged conn n 0 (calls_of shards command)) start (due_with_index shards conn 0 (commands_over own) number command is)

      -- what was said to the calls of a command
      said_is_by : (moment : ℕ → ℕ) → All IsWithin es → said_to conn session index (made_from streams moment 0 es) ≡ said_by command (replies_at number (of_connection conn es))
      said_is_by moment within = said_is moment es within ∙ said_all shards conn number command (mine es) (tallies shards command keyed) mine_due

      -- and its text is an answer
      pub command_answered : (moment : ℕ → ℕ) → All IsWithin es → All IsSaid es
          → IsAnswer command (said_to conn session index (made_from streams moment 0 es)) (text command (replies_at number (of_connection conn es)))
      command_answered moment within said =
          subst (λ (saids : List Said). IsAnswer command saids (text command (replies_at number (of_connection conn es)))) (sym (said_is_by moment within))
          (text_is_answer command (replies_at number (of_connection conn es))
          (said_fits shards conn number command (mine es) keyed
          (recursion_from_All IsSaid (mine es) (All-filter (λ (e : Entry). e.tag.index == number) IsSaid (of_connection conn es) (All-filter (λ (e : Entry). e.tag.conn == conn) IsSaid es said))) mine_due))
