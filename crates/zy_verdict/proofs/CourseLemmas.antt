-- Each key of an explained recording has a course, and a course keeps the order of calls.
use Rattle.std.specs.List.{slice_get}
use Rattle.std.proofs.Common.{◌≡◌, inl, inr, ⊎_elim, ℕ, ◌+◌, ◌<◌, ◌≤◌, ◌==◌, ◌&&◌, Bool, true, false, List, [], ◌∷◌, map, filter, take, AllPairs, Contains, get_or, Option, Some, refl, sym, ap, ◌∙◌, subst, arith}
use Rattle.std.proofs.lemmas.List.Elements.{All-filter, All-contains, All-contains_itself, filter_passes}
use Rattle.std.proofs.lemmas.List.Kept.{AllPairs-cons, AllPairs-filter}
use mathlib.Core.Logic.{dite}
use native.Mathlib.Decide.{dec_lt}
use Rattle.mc_allows.specs.declared.call_name.CallName.{CallName}
use Rattle.mc_allows.specs.Steps.{KeyStep}
use Rattle.mc_answers.specs.Said.{said_calls}
use Rattle.mc_calls.specs.declared.item.Item.{Item}
use Rattle.mc_parse.specs.declared.command.Command.{Command}
use Rattle.zy_times.proofs.RecordLemmas.{is_same}
use Rattle.zy_times.specs.Sessions.{sent_in}
use Rattle.zy_verdict.specs.Recorded.{Recorded, session_commands, last_moment}
use Rattle.zy_verdict.specs.Entries.{NamedCall, MadeCall, name_at, named_parts, named_from, is_of_session, of_session, said_to, is_at_key, placed_at}
use Rattle.zy_verdict.specs.Explained.{OutputCuts, IsTimely, IsNotLater, MayHaveFailed, AreDue, IsExplainedBy, IsExplained}
use Rattle.zy_verdict.specs.Course.{IsCallOf, IsBeforeAnswer, IsSure, IsEarlier, KeepsCallOrder, EndsBefore, IsSurelyBefore, IsCallAt, IsCourseBy, IsCourse, HasCourse}
use Rattle.zy_verdict.proofs.ListLemmas.{all_at, get_taken, taken_get, mapped_get, pairs_head, pairs_none, pairs_at, pairs_of_map, contains_kept, kept_contains, all_of_kept, pairs_kept_tail, keep_one, contains_mapped, mapped_contains, mapped_kept, contains_at}
use Rattle.zy_verdict.proofs.NameLemmas.{NamedBefore, part_at, names_rise, names_of, has_name, names_at, is_of_command, IsOfList}
use Rattle.zy_verdict.proofs.MomentLemmas.{sent_rises, marks_later, no_more_trues}

-- ---- sessions

both_true : (a b c d : ℕ) → a ≡ c → b ≡ d → (a == c && b == d) ≡ true
both_true a b c d one other = ap (λ (x : Bool). x && b == d) (is_same a c one) ∙ is_same b d other

-- the test of a session that two names share
own_session : (name : CallName) → is_of_session name.conn name.session name ≡ true
own_session name = both_true name.conn name.session name.conn name.session refl refl

-- whether an entry is of a session
abbrev in_session : ℕ → ℕ → MadeCall → Bool
in_session conn session e = is_of_session conn session e.named.name

-- the order of each session is one order of all entries
sessions_order : (entries : List MadeCall) → ((conn session : ℕ) → AllPairs KeepsCallOrder (of_session conn session entries)) → AllPairs KeepsCallOrder entries
sessions_order [] each = pairs_none KeepsCallOrder
sessions_order (e ∷ entries) each =
    let own = e.named.name in
    let kept = keep_one (in_session own.conn own.session) (in_session own.conn own.session e) e (of_session own.conn own.session entries) (own_session own) in
    let head = pairs_head KeepsCallOrder e (of_session own.conn own.session entries) (subst (AllPairs KeepsCallOrder) kept (each own.conn own.session)) in
    AllPairs-cons KeepsCallOrder e entries
    (all_of_kept (in_session own.conn own.session) (KeepsCallOrder e) entries head
    (λ other differs same. absurd (
    let one : is_of_session own.conn own.session other.named.name ≡ true = both_true other.named.name.conn other.named.name.session own.conn own.session (sym same.conn) (sym same.session) in
    let both : true ≡ false = sym one ∙ differs in cc)))
    (sessions_order entries (λ conn session. pairs_kept_tail (in_session conn session) KeepsCallOrder (in_session conn session e) e (of_session conn session entries) (each conn session)))

-- ---- an explanation

module _ (r : Recorded) (cuts : OutputCuts) (entries : List MadeCall) (x : IsExplainedBy r cuts entries) where
  -- the call of an entry
  abbrev call_in : MadeCall → NamedCall
  call_in e = e.named

  session_rises : (conn session : ℕ) → AllPairs KeepsCallOrder (of_session conn session entries)
  session_rises conn session =
      let due = x.due conn session in
      let pairs = pairs_of_map NamedBefore call_in (of_session conn session entries)
      (subst (AllPairs NamedBefore) (sym due.calls) (names_rise r.shards conn session 0 (take due.made (session_commands r conn session)))) in
      λ i j d before within same. pairs i j d before within

  -- ---- each entry is a call

  module _ (e : MadeCall) (there : Contains entries e) where
    abbrev conn : ℕ
    conn = e.named.name.conn

    abbrev session : ℕ
    session = e.named.name.session

    abbrev index : ℕ
    index = e.named.name.index

    abbrev own : List MadeCall
    own = of_session conn session entries

    abbrev due : AreDue r cuts entries conn session
    due = x.due conn session

    abbrev commands : List Command
    commands = take due.made (session_commands r conn session)

    own_there : Contains own e
    own_there = contains_kept (in_session conn session) entries e there (own_session e.named.name)

    listed : IsOfList r.shards conn session 0 commands e.named
    listed =
        All-contains (IsOfList r.shards conn session 0 commands) (named_from r.shards conn session 0 commands) e.named (names_of r.shards conn session 0 commands)
        (subst (λ (l : List NamedCall). Contains l e.named) due.calls (contains_mapped call_in own e own_there))

    number : listed.at ≡ index
    number = let is = listed.number in omega (arith, is)

    -- the entries of its command
    abbrev alike : List MadeCall
    alike = filter (λ (other : MadeCall). other.named.name.index == index) own

    alike_there : Contains alike e
    alike_there = contains_kept (λ (other : MadeCall). other.named.name.index == index) own e own_there (is_same index index refl)

    alike_are : map call_in alike ≡ named_parts conn session index 0 (said_calls r.shards listed.command)
    alike_are =
        mapped_kept call_in (is_of_command r.shards conn session index) own
        ∙ ap (filter (is_of_command r.shards conn session index)) due.calls
        ∙ subst (λ (i : ℕ). filter (is_of_command r.shards conn session i) (named_from r.shards conn session 0 commands) ≡ named_parts conn session i 0 (said_calls r.shards listed.command))
        (sym listed.number) (names_at r.shards conn session 0 commands listed.at listed.command listed.is)

    part : alike_there.0 ≡ e.named.name.part
    part =
        let at = subst (λ (l : List NamedCall). slice_get l alike_there.0 ≡ Some e.named) alike_are (mapped_get call_in alike alike_there.0 e (contains_at alike e alike_there)) in
        let is = (part_at conn session index 0 (said_calls r.shards listed.command) alike_there.0 e.named at).0 in
        omega (arith, is)

    command_is : slice_get (session_commands r conn session) index ≡ Some listed.command
    command_is = subst (λ (i : ℕ). slice_get (session_commands r conn session) i ≡ Some listed.command) number
        (get_taken (session_commands r conn session) due.made listed.at listed.command listed.is)

    pub entry_is : (key : List ℕ) → is_at_key r.shards key e.named.call ≡ true → IsCallAt r cuts key e
    entry_is key about = record {
      command = listed.command;
      belongs = record { is = command_is; part = listed.part };
      about = about;
      said = said_to conn session index entries;
      part = subst (λ (k : ℕ). slice_get (said_to conn session index entries) k ≡ Some e.said) part
          (mapped_get (λ (other : MadeCall). other.said) alike alike_there.0 e (contains_at alike e alike_there));
      fits = x.answers conn session index listed.command command_is;
    }

  -- ---- each sure call occurs

  -- a sure call belongs to a command that makes its calls
  made_enough : (name : CallName) → IsSure r cuts name → name.index < (x.due name.conn name.session).made
  made_enough name sure =
      let due = x.due name.conn name.session in
      dite (dec_lt name.index due.made) (λ below. below)
      (λ above. absurd (⊎_elim
      (λ ended.
      let fit = x.fit name.conn name.session (last_moment r) in
      let few = no_more_trues (sent_in r.records name.conn name.session (last_moment r)) name.index (cuts name.conn name.session).texts (λ k from. due.reaches k (omega (arith, above, from))) in
      omega (arith, fit, few, ended))
      (λ (w : IsBeforeAnswer cuts name). let from = w.from in w.answered (due.reaches w.index (omega (arith, above, from))))
      sure))

  sure_occurs : (key : List ℕ) (command : Command) (n : NamedCall) → IsCallOf r command n → is_at_key r.shards key n.call ≡ true → IsSure r cuts n.name
      → Contains (map call_in (placed_at r.shards key entries)) n
  sure_occurs key command n call about sure =
      let conn = n.name.conn in
      let session = n.name.session in
      let index = n.name.index in
      let due = x.due conn session in
      let commands = take due.made (session_commands r conn session) in
      let is = taken_get (session_commands r conn session) due.made index command (made_enough n.name sure) call.is in
      let listed = has_name r.shards conn session 0 commands index command n.name.part n.call is call.part in
      let number : 0 + index ≡ index = omega arith in
      let part : 0 + n.name.part ≡ n.name.part = omega arith in
      let first = subst (λ (i : ℕ). Contains (named_from r.shards conn session 0 commands) (record { name = name_at conn session i (0 + n.name.part); call = n.call })) number listed in
      let here = subst (λ (p : ℕ). Contains (named_from r.shards conn session 0 commands) (record { name = name_at conn session index p; call = n.call })) part first in
      let found = mapped_contains call_in (of_session conn session entries) n (subst (λ (l : List NamedCall). Contains l n) (sym due.calls) here) in
      let e = found.0 in
      let there = kept_contains (in_session conn session) entries e found.1 in
      let at = subst (λ (m : NamedCall). is_at_key r.shards key m.call ≡ true) (sym found.2) about in
      subst (λ (m : NamedCall). Contains (map call_in (placed_at r.shards key entries)) m) found.2
      (contains_mapped call_in (placed_at r.shards key entries) e (contains_kept (λ (other : MadeCall). is_at_key r.shards key other.named.call) entries e there at))

  -- ---- the course

  pub course_of : (key : List ℕ) → IsCourse r cuts key (x.first key)
  course_of key =
      let at_key = λ (e : MadeCall). is_at_key r.shards key e.named.call in
      let there = All-filter at_key (Contains entries) entries (All-contains_itself entries) in
      let passes = filter_passes at_key entries in
      record {
        entries = placed_at r.shards key entries;
        steps = x.steps key;
        course = record {
          calls = λ k d within. entry_is (get_or (placed_at r.shards key entries) k d) (there k d within) key (passes k d within);
          failures = All-filter at_key (MayHaveFailed r) entries x.failures;
          sure = λ command n call about sure. sure_occurs key command n call about sure;
          order = AllPairs-filter KeepsCallOrder at_key entries (sessions_order entries session_rises);
          rises = AllPairs-filter IsNotLater at_key entries x.rises;
          timely = All-filter at_key (IsTimely r cuts) entries x.timely;
          chain = x.chains key;
        };
      }

pub some_course : (r : Recorded) → IsExplained r → (key : List ℕ) → HasCourse r key
some_course r explained key =
    let x = explained.1.1 in
    record {
      cuts = explained.0;
      cut = x.cut;
      first = x.first key;
      cold = λ cold. x.cold cold key;
      course = course_of r explained.0 explained.1.0 x key;
    }

-- ---- order

-- no call is earlier than itself or than a call that is earlier
not_both : (one other : CallName) → IsEarlier one other → IsEarlier other one → ⊥
not_both one other (inl a) (inl b) = omega (arith, a, b)
not_both one other (inl a) (inr b) = let same = b.0 in omega (arith, a, same)
not_both one other (inr a) (inl b) = let same = a.0 in omega (arith, b, same)
not_both one other (inr a) (inr b) = let first = a.1 in let second = b.1 in omega (arith, first, second)

module _ (r : Recorded) (cuts : OutputCuts) (key : List ℕ) (first : Option Item) (entries : List MadeCall) (steps : List KeyStep) (x : IsCourseBy r cuts key first entries steps) where
  -- the later of two entries, or the same one, is not surely before
  not_ended : (e other : MadeCall) → IsTimely r cuts e → IsTimely r cuts other → other.moment ≤ e.moment → EndsBefore r cuts e.named.name other.named.name → ⊥
  not_ended e other mine others order before =
      let own = e.named.name in
      let name = other.named.name in
      dite (dec_lt before.moment other.moment)
      (λ low.
      let marks = marks_later r.records own.conn own.session before.moment e.moment (omega (arith, low, order)) in
      let ended = before.ended in
      mine.unended (omega (arith, marks, ended)))
      (λ high.
      let more = sent_rises r.records name.conn name.session other.moment before.moment (omega (arith, high)) in
      let sent = others.sent in
      before.unsent (omega (arith, more, sent)))

  not_after : (p q : ℕ) (e other : MadeCall) → slice_get entries p ≡ Some e → slice_get entries q ≡ Some other → q < p → IsSurelyBefore r cuts e.named.name other.named.name → ⊥
  not_after p q e other is others after (inl before) =
      not_ended e other (all_at (IsTimely r cuts) entries p e x.timely is) (all_at (IsTimely r cuts) entries q other x.timely others)
      (pairs_at IsNotLater entries q p other e x.rises after others is) before
  not_after p q e other is others after (inr before) =
      let same = before.0 in
      not_both e.named.name other.named.name before.1
      (pairs_at KeepsCallOrder entries q p other e x.order after others is (record { conn = sym same.conn; session = sym same.session }))

  not_same_entry : (p : ℕ) (e : MadeCall) → slice_get entries p ≡ Some e → IsSurelyBefore r cuts e.named.name e.named.name → ⊥
  not_same_entry p e is (inl before) =
      let timely = all_at (IsTimely r cuts) entries p e x.timely is in
      not_ended e e timely timely (omega arith) before
  not_same_entry p e is (inr before) = not_both e.named.name e.named.name before.1 before.1

  pub before_first : (p q : ℕ) (e other : MadeCall) → slice_get entries p ≡ Some e → slice_get entries q ≡ Some other → IsSurelyBefore r cuts e.named.name other.named.name → p < q
  before_first p q e other is others before =
      dite (dec_lt p q) (λ low. low)
      (λ high. absurd (dite (dec_lt q p)
      (λ after. not_after p q e other is others after before)
      (λ not_later.
      let same : q ≡ p = omega (arith, high, not_later) in
      let both : Some other ≡ Some e = sym others ∙ ap (slice_get entries) same ∙ is in
      let one : other ≡ e = cc in
      not_same_entry p e is (subst (λ (o : MadeCall). IsSurelyBefore r cuts e.named.name o.named.name) one before))))
