-- What the texts and times of a session show of its commands.
use Rattle.std.proofs.Common.{◌≡◌, ◌⊎◌, inl, inr, ℕ, add-one, ◌+◌, ◌-◌, ◌<◌, ◌≤◌, nat_lt, not, Bool, true, false, List, [], ◌∷◌, ◌++◌, length, take, drop, map, Option, None, Some, refl, sym, ap, ◌∙◌, subst, append_assoc, append-nil, arith}
use Rattle.std.specs.List.{slice_get}
use Rattle.std.proofs.lemmas.List.{length-take-le, length-drop, length-map, take_all}
use Rattle.std.proofs.lemmas.Bool.{ltb-true, ltb-false}
use Rattle.std.proofs.lemmas.Option.{slice_get_within}
use Rattle.mc_allows.specs.declared.call_name.CallName.{CallName}
use Rattle.mc_allows.specs.declared.said.Said.{Said}
use Rattle.mc_answers.specs.Answer.{IsAnswer}
use Rattle.mc_answers.specs.Output.{Cut, IsCut, text_at}
use Rattle.mc_answers.specs.Said.{said_calls}
use Rattle.mc_kind.specs.Cutting.{text_in, AreTexts, AreFirstTexts, AreAllTexts}
use Rattle.mc_kind.specs.declared.text.Text.{Text}
use Rattle.mc_parse.specs.declared.command.Command.{Command}
use Rattle.zy_check.specs.Answered.{has_bytes}
use Rattle.zy_check.proofs.ListLemmas.{take_one}
use Rattle.zy_refute.specs.declared.observed.Observed.{Observed}
use Rattle.zy_sessions.specs.declared.session.Session.{Session}
use Rattle.zy_sessions.specs.Sessions.{SessionHolds}
use Rattle.zy_times.specs.Sessions.{marks_at, MarksFitIn}
use Rattle.zy_times.specs.Times.{trues, number_if}
use Rattle.zy_verdict.specs.Recorded.{Recorded, session_commands, output_of}
use Rattle.zy_verdict.specs.Entries.{NamedCall, name_at, named_parts, named_from}
use Rattle.zy_verdict.specs.Explained.{OutputCuts, AreCuts, answered_by_cut, IsExplained}
use Rattle.zy_verdict.specs.Course.{IsBeforeAnswer}
use Rattle.zy_outputs.specs.declared.rules.Rules.{Rules}
use Rattle.zy_outputs.specs.declared.finding.Finding.{Finding}
use Rattle.zy_outputs.specs.Adding.{Obeys, IsSeen, EachFits, AddsShown, AddsCalls}
use Rattle.zy_outputs.specs.Observing.{IsEarlyEnd}
use Rattle.zy_outputs.specs.Texts.{bytes_if, known_bytes, has_bytes_if, may_have_bytes, IsSureBelow}
use Rattle.zy_outputs.specs.Sessions.{seen_by, session_calls, IsSession, IsDone, IsEarlyMark, IsEarlyAt, SessionAdds}
use Rattle.zy_outputs.proofs.AddingLemmas.{past_end, adds_none, adds_on}
use Rattle.zy_outputs.proofs.TimeLemmas.{flags_more, not_sent_before, mark_rises, mark_above, mark_in_end, early_never, last_never}

-- ---- texts

not_false : (b : Bool) → not b ≡ false → b ≡ true
not_false true is = refl
not_false false is = absurd (cc)

-- a text without bytes
text_empty : (output : List ℕ) (text : Text) → nat_lt text.from text.to ≡ false → text_in output text ≡ []
text_empty output text none =
    let few = ltb-false text.from text.to none in
    let e : text.to - text.from ≡ 0 = omega (arith, few) in
    ap (λ (n : ℕ). take n (drop text.from output)) e

-- the output of a session is cut so
abbrev pub IsCutOf : Recorded → ℕ → ℕ → Cut → Type 0
IsCutOf r conn session cut = IsCut (session_commands r conn session) (output_of r conn session) cut

-- in each cut at most this number of the commands before an index are answered
abbrev pub Counts : Recorded → ℕ → ℕ → ℕ → ℕ → Type 0
Counts r conn session index before = (cut : Cut) → IsCutOf r conn session cut → trues (take index (map has_bytes cut.texts)) ≤ before

-- ---- a session

module _ (r : Recorded) (conn session : ℕ) (s : Session) (output : List ℕ) (holds : SessionHolds r.records conn session s) (output_is : output ≡ output_of r conn session) where
  -- the session's own cut
  own_cut : (cut : Cut) → IsCutOf r conn session cut → IsCut s.commands.items output cut
  own_cut cut c = subst (λ (o : List ℕ). IsCut s.commands.items o cut) (sym output_is) (subst (λ (cs : List Command). IsCut cs (output_of r conn session) cut) (sym holds.commands) c)

  -- an output without a cut
  pub uncut_refutes : ((cut : Cut) → IsCut s.commands.items output cut → ⊥) → IsExplained r → ⊥
  uncut_refutes none explained = let by = explained.1.1 in none (explained.0 conn session) (own_cut (explained.0 conn session) (by.cut conn session))

  -- a mark that does not fit
  never_refutes : (mark : ℕ) → ((cut : Cut) → IsCutOf r conn session cut → MarksFitIn r.records conn session (map has_bytes cut.texts) mark → ⊥) → IsExplained r → ⊥
  never_refutes mark never explained = let by = explained.1.1 in never (explained.0 conn session) (by.cut conn session) (by.fit conn session mark)

  mark_refutes : (before m : ℕ) → slice_get s.marks.items before ≡ Some m → ((cut : Cut) → IsCutOf r conn session cut → MarksFitIn r.records conn session (map has_bytes cut.texts) m → ⊥) → (IsExplained r → ⊥) × IsEarlyEnd r (m - 1)
  mark_refutes before m is_mark never =
      let rise = mark_rises r.records conn session s.sent.items s.marks.items holds.sent holds.marks before m is_mark in
      let next : m ≡ m - 1 + 1 = let some = rise.0 in omega (arith, some) in (
        never_refutes m never,
        record {
          conn = conn;
          session = session;
          is = subst (λ (n : ℕ). marks_at r.records conn session (m - 1) < marks_at r.records conn session n) next rise.1;
          early = λ cut c fit. never cut c (subst (MarksFitIn r.records conn session (map has_bytes cut.texts)) (sym next) fit);
        },
      )

  -- a mark that comes before its command
  pub early_refutes : (index before own m : ℕ) → Counts r conn session index before → slice_get s.sent.items index ≡ Some own → slice_get s.marks.items before ≡ Some m → m < own → (IsExplained r → ⊥) × IsEarlyEnd r (m - 1)
  early_refutes index before own m counts is_own is_mark early = mark_refutes before m is_mark (λ cut c fit.
      early_never r.records conn session s.sent.items s.marks.items holds.sent holds.marks (map has_bytes cut.texts) index before own m (counts cut c) is_own is_mark early fit)

  -- a mark after those of all commands
  pub late_refutes : (index before m : ℕ) → length s.commands.items ≤ index → Counts r conn session index before → slice_get s.marks.items before ≡ Some m → (IsExplained r → ⊥) × IsEarlyEnd r (m - 1)
  late_refutes index before m past counts is_mark = mark_refutes before m is_mark (λ cut c fit.
      let own = own_cut cut c in
      let size = own.size in
      let long : length (map has_bytes cut.texts) ≡ length cut.texts = length-map cut.texts has_bytes in
      let whole : take index (map has_bytes cut.texts) ≡ map has_bytes cut.texts = take_all index (map has_bytes cut.texts) (omega (arith, size, long, past)) in
      last_never r.records conn session s.sent.items s.marks.items holds.sent holds.marks (map has_bytes cut.texts) before m
      (subst (λ (flags : List Bool). trues flags ≤ before) whole (counts cut c)) is_mark fit)

  module _ (texts : List Text) (all : Bool) (stand : AreTexts s.commands.items output texts) (first : AreFirstTexts s.commands.items output texts) (rest : all ≡ true → AreAllTexts s.commands.items output texts) where
    -- a command that is not answered
    unanswered : (cut : Cut) → IsCut s.commands.items output cut → (index : ℕ) (text : Option Text) → slice_get texts index ≡ text → has_bytes_if all text ≡ false → text_at cut index ≡ []
    unanswered cut c index None is none = rest (not_false all none) cut c index (past_end texts index is)
    unanswered cut c index (Some text) is none = let own = first cut c index text is in own.is ∙ text_empty output text none

    -- one more command
    pub counts_more : (index before : ℕ) → Counts r conn session index before → Counts r conn session (index + 1) (before + number_if (may_have_bytes texts all index))
    counts_more index before counts cut c =
        let old = counts cut c in
        let step = flags_more cut.texts index (may_have_bytes texts all index) (λ none. unanswered cut (own_cut cut c) index (slice_get texts index) refl none) in
        let on = ap (λ (n : ℕ). trues (take n (map has_bytes cut.texts))) (add-one index) in
        omega (arith, old, step, on)

    -- a text with bytes
    text_some : (text : Text) (index : ℕ) → slice_get texts index ≡ Some text → text.from < text.to → text_in output text ≡ [] → ⊥
    text_some text index is some none =
        let own = stand.each index text is in
        let within = own.within in
        let left = length-drop text.from output in
        let long = length-take-le (text.to - text.from) (drop text.from output) (omega (arith, left, within)) in
        let zero_long : length (text_in output text) ≡ 0 = ap length none in
        omega (arith, long, some, zero_long)

    -- a command before an answered one
    before_answer : (index part sure : ℕ) → IsSureBelow texts sure → index < sure → (cuts : OutputCuts) → AreCuts r cuts → IsBeforeAnswer cuts (name_at conn session index part)
    before_answer index part sure (inl none) below cuts cut = absurd (omega (arith, none, below))
    before_answer index part sure (inr last) below cuts cut =
        let number = last.last in
        let has = first (cuts conn session) (own_cut (cuts conn session) (cut conn session)) last.index last.text last.is in
        record { index = last.index; from = omega (arith, number, below); answered = λ none. text_some last.text last.index last.is last.some (sym has.is ∙ none) }

    -- what is seen of a command
    pub seen_command : (index part before own sure : ℕ) (command : Command) (mark : Option ℕ) → slice_get s.commands.items index ≡ Some command → slice_get s.sent.items index ≡ Some own
        → mark ≡ slice_get s.marks.items before → Counts r conn session index before → IsSureBelow texts sure
        → IsSeen r (name_at conn session index part) command (seen_by (nat_lt index sure) own mark)
    seen_command index part before own sure command None is is_own is_mark counts last = record {
      is = subst (λ (cs : List Command). slice_get cs index ≡ Some command) holds.commands is;
      sure = λ below cuts cut. inr (before_answer index part sure last (ltb-true index sure below) cuts cut);
      sent = λ moment come. not_sent_before r.records conn session s.sent.items s.marks.items holds.sent holds.marks index own moment is_own come;
      ended = λ moment none. absurd (cc);
    }
    seen_command index part before own sure command (Some m) is is_own is_mark counts last = record {
      is = subst (λ (cs : List Command). slice_get cs index ≡ Some command) holds.commands is;
      sure = λ below cuts cut. inl (
          let few = counts (cuts conn session) (cut conn session) in
          let above = mark_in_end r.records conn session s.sent.items s.marks.items holds.sent holds.marks before m (sym is_mark) in
          omega (arith, few, above));
      sent = λ moment come. not_sent_before r.records conn session s.sent.items s.marks.items holds.sent holds.marks index own moment is_own come;
      ended = λ moment there cuts cut.
          let same : m ≡ moment = cc in
          let few = counts (cuts conn session) (cut conn session) in
          let above = mark_above r.records conn session s.sent.items s.marks.items holds.sent holds.marks before m (sym is_mark) in
          subst (λ (n : ℕ). trues (take index (answered_by_cut cuts conn session)) < marks_at r.records conn session n) same (omega (arith, few, above));
    }

    -- what fits the bytes of a command
    fits_if : (index part : ℕ) (command : Command) → slice_get s.commands.items index ≡ Some command → (text : Option Text) → slice_get texts index ≡ text
        → EachFits r (name_at conn session index part) command (λ (saids : List Said). (bytes_if output text ≡ []) ⊎ IsAnswer command saids (bytes_if output text))
    fits_if index part command is None there cuts cut saids fits = inl refl
    fits_if index part command is (Some text) there cuts cut saids fits =
        let has = first (cuts conn session) (own_cut (cuts conn session) (cut conn session)) index text there in
        has.whole command saids is fits

    pub fits_known : (index part : ℕ) (command : Command) → slice_get s.commands.items index ≡ Some command
        → EachFits r (name_at conn session index part) command (λ (saids : List Said). (known_bytes output texts index ≡ []) ⊎ IsAnswer command saids (known_bytes output texts index))
    fits_known index part command is = fits_if index part command is (slice_get texts index) refl

-- ---- the calls of a session

module _ (shards conn session : ℕ) where
  named_more : (index : ℕ) (commands : List Command) (command : Command)
      → named_from shards conn session index (commands ++ command ∷ []) ≡ named_from shards conn session index commands ++ named_parts conn session (index + length commands) 0 (said_calls shards command)
  named_more index [] command =
      let at : index ≡ index + length {A = Command} [] = omega arith in
      append-nil (named_parts conn session index 0 (said_calls shards command)) ∙ ap (λ (i : ℕ). named_parts conn session i 0 (said_calls shards command)) at
  named_more index (own ∷ commands) command =
      let at : index + 1 + length commands ≡ index + length (own ∷ commands) = omega arith in
      ap (λ (l : List NamedCall). named_parts conn session index 0 (said_calls shards own) ++ l)
      (named_more (index + 1) commands command ∙ ap (λ (i : ℕ). named_from shards conn session (index + 1) commands ++ named_parts conn session i 0 (said_calls shards command)) at)
      ∙ sym (append_assoc (named_parts conn session index 0 (said_calls shards own)) (named_from shards conn session (index + 1) commands) (named_parts conn session (index + length (own ∷ commands)) 0 (said_calls shards command)))

  -- the calls of one more command
  pub named_one : (commands : List Command) (index : ℕ) (command : Command) → slice_get commands index ≡ Some command
      → named_from shards conn session 0 (take (index + 1) commands) ≡ named_from shards conn session 0 (take index commands) ++ named_parts conn session index 0 (said_calls shards command)
  named_one commands index command is =
      let within = slice_get_within commands index command is in
      let taken : length (take index commands) ≡ index = length-take-le index commands (omega (arith, within)) in
      let long : 0 + length (take index commands) ≡ index = omega (arith, taken) in
      ap (named_from shards conn session 0) (take_one commands index command is) ∙ named_more 0 (take index commands) command
      ∙ ap (λ (i : ℕ). named_from shards conn session 0 (take index commands) ++ named_parts conn session i 0 (said_calls shards command)) long

-- ---- on the way through a session

at_most_one : (flag : Bool) → number_if flag ≤ 1
at_most_one true = omega arith
at_most_one false = omega arith

-- the calls of the commands before this index are added, and in each cut at most this number of these are answered
pub record KnowsSession (rules : Rules) (name : CallName) (s : Session) (output : List ℕ) (texts : List Text) (all : Bool) (old : List Observed) (index before : ℕ) (now : List Observed) : Type 0 where
  pub few : before ≤ index
  pub adds : AreFirstTexts s.commands.items output texts → (all ≡ true → AreAllTexts s.commands.items output texts) → (r : Recorded) → Obeys rules r → IsSession r name s output
      → AddsShown r old now (named_from r.shards name.conn name.session 0 (take index s.commands.items)) × Counts r name.conn name.session index before

pub knows_start : (rules : Rules) (name : CallName) (s : Session) (output : List ℕ) (texts : List Text) (all : Bool) (calls : List Observed) → KnowsSession rules name s output texts all calls 0 0 calls
knows_start rules name s output texts all calls = record { few = omega arith; adds = λ first rest r obeys is. (adds_none r calls, λ cuts cut. omega arith) }

module _ (rules : Rules) (name : CallName) (s : Session) (output : List ℕ) (texts : List Text) (all : Bool) (old : List Observed) (index before : ℕ) (now : List Observed)
    (k : KnowsSession rules name s output texts all old index before now) where
  -- one more command
  pub knows_next : (stand : AreTexts s.commands.items output texts) (part sure own : ℕ) (command : Command) (mark : Option ℕ) (text : List ℕ) (new : List Observed) (flag : Bool) → slice_get s.commands.items index ≡ Some command
      → slice_get s.sent.items index ≡ Some own → mark ≡ slice_get s.marks.items before → IsSureBelow texts sure → text ≡ known_bytes output texts index → flag ≡ may_have_bytes texts all index
      → AddsCalls rules (name_at name.conn name.session index part) command text (seen_by (nat_lt index sure) own mark) now new
      → KnowsSession rules name s output texts all old (index + 1) (before + number_if flag) new
  knows_next stand part sure own command mark text new flag is is_own is_mark last text_is flag_is added = record {
    few = let few = k.few in let one = at_most_one flag in omega (arith, few, one);
    adds = λ first rest r obeys session.
        let before_this = k.adds first rest r obeys session in
        let seen = seen_command r name.conn name.session s output session.holds session.output_is texts all stand first rest index part before own sure command mark is is_own is_mark before_this.1 last in
        let fits = subst (λ (t : List ℕ). EachFits r (name_at name.conn name.session index part) command (λ (saids : List Said). (t ≡ []) ⊎ IsAnswer command saids t)) (sym text_is)
        (fits_known r name.conn name.session s output session.holds session.output_is texts all stand first rest index part command is) in
        let these = added r obeys seen fits in (
          subst (AddsShown r old new) (sym (named_one r.shards name.conn name.session s.commands.items index command is))
              (adds_on r old now new (named_from r.shards name.conn name.session 0 (take index s.commands.items)) (named_parts name.conn name.session index 0 (said_calls r.shards command)) before_this.0 these),
          subst (λ (f : Bool). Counts r name.conn name.session (index + 1) (before + number_if f)) (sym flag_is)
              (counts_more r name.conn name.session s output session.holds session.output_is texts all stand first rest index before before_this.1),
        );
  }

  -- a mark comes before the command that it may end
  pub early_ends : (own : ℕ) (mark : Option ℕ) (found : Option Finding) (new : List Observed) → slice_get s.sent.items index ≡ Some own → mark ≡ slice_get s.marks.items before → IsEarlyMark own mark → IsEarlyAt mark found
      → SessionAdds rules name s output texts all old new found
  early_ends own None found new is_own is early ends first rest r obeys session = absurd early
  early_ends own (Some m) found new is_own is early ends first rest r obeys session =
      subst (IsDone r old new (session_calls r name.conn name.session)) (sym ends)
      (early_refutes r name.conn name.session s output session.holds session.output_is index before own m ((k.adds first rest r obeys session).1) is_own (sym is) early)

  -- no command is left, and perhaps a mark
  pub session_ends : length s.commands.items ≤ index → (mark : Option ℕ) (found : Option Finding) → mark ≡ slice_get s.marks.items before → IsEarlyAt mark found → SessionAdds rules name s output texts all old now found
  session_ends past None found is early first rest r obeys session =
      let adds = (k.adds first rest r obeys session).0 in
      let whole = subst (λ (cs : List Command). AddsShown r old now (named_from r.shards name.conn name.session 0 cs)) (take_all index s.commands.items past ∙ session.holds.commands) adds in
      subst (IsDone r old now (session_calls r name.conn name.session)) (sym early) whole
  session_ends past (Some m) found is early first rest r obeys session =
      subst (IsDone r old now (session_calls r name.conn name.session)) (sym early)
      (late_refutes r name.conn name.session s output session.holds session.output_is index before m past ((k.adds first rest r obeys session).1) (sym is))
