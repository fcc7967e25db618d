-- Two windows that follow each other are explained as one.
use Rattle.std.specs.Prelude.{if◌then◌else◌, ◌↔◌}
use Rattle.std.specs.List.{slice_get}
use Rattle.std.proofs.Common.{◌≡◌, ◌⊎◌, inl, inr, ⊎_elim, ℕ, zero, suc, ◌+◌, ◌-◌, ◌<◌, ◌≤◌, ◌==◌, ◌&&◌, Bool, true, false, ◌||◌, List, [], ◌∷◌, ◌++◌, length, get_or, take, map, All, AllPairs, Contains, Option, Some, refl, sym, ap, ◌∙◌, subst, arith}
use Rattle.std.proofs.lemmas.List.{length-append, length-map}
use Rattle.std.proofs.lemmas.List.Elements.{All-nil, All-cons, All-head, All-tail, All-append, All-map, All-weaker, All-contains_itself}
use Rattle.mc_allows.specs.declared.call_name.CallName.{CallName}
use Rattle.mc_allows.specs.declared.said.Said.{Said}
use Rattle.mc_allows.specs.Allows.{may_fail_quietly}
use Rattle.mc_allows.specs.Steps.{KeyStep, item_after, first_uniques, AreAllowed, is_same}
use Rattle.mc_answers.specs.Output.{Cut, FitsText, text_at}
use Rattle.mc_calls.specs.declared.item.Item.{Item}
use Rattle.mc_parse.specs.declared.command.Command.{Command}
use Rattle.zy_check.specs.Answered.{has_bytes}
use Rattle.zy_times.specs.Sessions.{sent_in, marks_at, MarksFitIn, AllMarksFit}
use Rattle.zy_times.specs.Times.{trues}
use Rattle.zy_items.specs.declared.standing.KeptItem.{KeptItem}
use Rattle.zy_verdict.specs.Recorded.{Recorded, session_commands, last_moment}
use Rattle.zy_verdict.specs.Losses.{HasExptime, MayLoseAt}
use Rattle.zy_verdict.specs.Entries.{MadeCall, named_from, is_of_session, of_session, said_to, placed_at, AreStepsOf}
use Rattle.zy_verdict.specs.Explained.{OutputCuts, answered_by_cut, IsTimely, IsNotLater, MayHaveFailed, IsChain, AreDue, IsExplainedBy}
use Rattle.zy_items.specs.Standing.{Standing, IsStanding}
use Rattle.zy_verdict.specs.Between.{item_in, has_loss, LeadsBetween, IsExplainedBetween}
use Rattle.zy_verdict.proofs.ListLemmas.{contains_kept, pairs_append}
use Rattle.zy_times.proofs.RecordLemmas.{is_same as is_equal}
use Rattle.zy_verdict.proofs.GivenLemmas.{wider}
use Rattle.window_laws.specs.Joined.{raised, HasConnections, joined_windows, AreOfOneServer}
use Rattle.window_laws.proofs.WindowLemmas.{by_window, first_commands, first_sent, first_ended, later_commands, later_sent, later_ended, first_exptime, later_exptime, either_exptime, no_commands_behind}
use Rattle.window_laws.proofs.OutputLemmas.{both_sessions, joined_cuts, first_cut, later_cut, both_cuts}
use Rattle.window_laws.proofs.StepLemmas.{renamed, renamed_after, renamed_new, renamed_allowed, renamed_loss, renamed_within, after_both, loss_both, allowed_so, allowed_both, within_both, IsUpTo, new_both}
use Rattle.window_laws.proofs.EntryLemmas.{later_name, later_call, later_entry, later_names, both, first_said, later_said, both_placed, first_calls, later_calls, later_steps, both_steps, mapped_pairs}

-- a call is of its own session
own_session : (name : CallName) → is_of_session name.conn name.session name ≡ true
own_session name = ap (λ (b : Bool). b && name.session == name.session) (is_equal name.conn name.conn refl) ∙ is_equal name.session name.session refl

-- ---- what is sent and ended

-- the marks fit, if they, the commands sent and the answered ones are those of a session whose marks fit
alike_fit : (marks own_marks sent own_sent : ℕ) (answered own_answered : List Bool) → marks ≡ own_marks → sent ≡ own_sent → answered ≡ own_answered
    → own_marks ≤ trues (take own_sent own_answered) → marks ≤ trues (take sent answered)
alike_fit marks own_marks sent own_sent answered own_answered one two three fit =
    subst (λ (l : List Bool). marks ≤ trues (take sent l)) (sym three)
    (subst (λ (n : ℕ). marks ≤ trues (take n own_answered)) (sym two) (omega (arith, one, fit)))

-- the same of commands that are ended
alike_ended : (index marks own_marks : ℕ) (answered own_answered : List Bool) → marks ≡ own_marks → answered ≡ own_answered
    → trues (take index answered) < marks → trues (take index own_answered) < own_marks
alike_ended index marks own_marks answered own_answered one two ended =
    let same = ap (λ (l : List Bool). trues (take index l)) two in
    omega (arith, one, same, ended)

-- which commands of both windows are answered
module _ (r : Recorded) (cuts later_cuts : OutputCuts) where
  pub first_answered : (conn session : ℕ) → conn < r.count → answered_by_cut (joined_cuts r.count cuts later_cuts) conn session ≡ answered_by_cut cuts conn session
  first_answered conn session within = ap (λ (c : Cut). map has_bytes c.texts) (first_cut r.count cuts later_cuts conn session within)

  pub later_answered : (conn session : ℕ) → answered_by_cut (joined_cuts r.count cuts later_cuts) (r.count + conn) session ≡ answered_by_cut later_cuts conn session
  later_answered conn session = ap (λ (c : Cut). map has_bytes c.texts) (later_cut r.count cuts later_cuts conn session)

module _ (r next : Recorded) (own : HasConnections r) (server : AreOfOneServer r next)
    (cuts later_cuts : OutputCuts) (entries later : List MadeCall) (x : IsExplainedBy r cuts entries) (y : IsExplainedBy next later_cuts later) where
  abbrev whole : Recorded
  whole = joined_windows r next

  abbrev all_cuts : OutputCuts
  all_cuts = joined_cuts r.count cuts later_cuts

  abbrev moments : ℕ
  moments = length r.records

  abbrev all_entries : List MadeCall
  all_entries = both r.count moments entries later

  -- an entry of the second window, in both
  abbrev moved : MadeCall → MadeCall
  moved = later_entry r.count moments

  both_fit : AllMarksFit whole.records (answered_by_cut all_cuts)
  both_fit conn session moment =
      by_window (λ (c : ℕ). MarksFitIn whole.records c session (answered_by_cut all_cuts c session) moment) r.count conn
      (λ within.
      alike_fit (marks_at whole.records conn session moment) (marks_at r.records conn session moment) (sent_in whole.records conn session moment) (sent_in r.records conn session moment)
      (answered_by_cut all_cuts conn session) (answered_by_cut cuts conn session)
      (first_ended r next conn session within moment) (first_sent r next conn session within moment) (first_answered r cuts later_cuts conn session within) (x.fit conn session moment))
      (λ k.
      alike_fit (marks_at whole.records (r.count + k) session moment) (marks_at next.records k session (moment - moments)) (sent_in whole.records (r.count + k) session moment) (sent_in next.records k session (moment - moments))
      (answered_by_cut all_cuts (r.count + k) session) (answered_by_cut later_cuts k session)
      (later_ended r next own k session moment) (later_sent r next own k session moment) (later_answered r cuts later_cuts k session) (y.fit k session (moment - moments)))

  -- ---- due

  -- the first window has no entries of a later connection
  none_behind : (k session : ℕ) → of_session (r.count + k) session entries ≡ []
  none_behind k session =
      let due = x.due (r.count + k) session in
      no_calls (of_session (r.count + k) session entries)
      (due.calls ∙ ap (λ (l : List Command). named_from r.shards (r.count + k) session 0 (take due.made l)) (no_commands_behind r own k session) ∙ nothing_taken due.made)
    where
      no_calls : (l : List MadeCall) → map (λ (e : MadeCall). e.named) l ≡ [] → l ≡ []
      no_calls [] is = refl
      no_calls (e ∷ l) is = absurd (cc)

      nothing_taken : (n : ℕ) → named_from r.shards (r.count + k) session 0 (take n []) ≡ []
      nothing_taken zero = refl
      nothing_taken (suc n) = refl

  both_due : (conn session : ℕ) → AreDue whole all_cuts all_entries conn session
  both_due conn session = by_window (λ (c : ℕ). AreDue whole all_cuts all_entries c session) r.count conn (first_due session conn) (later_due session)
    where
      first_due : (session conn : ℕ) → conn < r.count → AreDue whole all_cuts all_entries conn session
      first_due session conn within =
          let due = x.due conn session in
          record {
            made = due.made;
            calls = first_calls r.count moments entries later conn session within ∙ due.calls
                ∙ ap (λ (l : List Command). named_from r.shards conn session 0 (take due.made l)) (sym (first_commands r next conn session within));
            reaches = λ index from. ap (λ (c : Cut). text_at c index) (first_cut r.count cuts later_cuts conn session within) ∙ due.reaches index from;
          }

      later_due : (session k : ℕ) → AreDue whole all_cuts all_entries (r.count + k) session
      later_due session k =
          let due = y.due k session in
          record {
            made = due.made;
            calls = later_calls r.count moments entries later k session (none_behind k session) ∙ ap (map (later_call r.count)) due.calls
                ∙ later_names r.count k session next.shards 0 (take due.made (session_commands next k session))
                ∙ ap (λ (n : ℕ). named_from n (r.count + k) session 0 (take due.made (session_commands next k session))) (sym server.shards)
                ∙ ap (λ (l : List Command). named_from r.shards (r.count + k) session 0 (take due.made l)) (sym (later_commands r next own k session));
            reaches = λ index from. ap (λ (c : Cut). text_at c index) (later_cut r.count cuts later_cuts k session) ∙ due.reaches index from;
          }

  -- ---- answers

  alike_text : (cut same : Cut) (index : ℕ) (command : Command) (saids others : List Said) → cut ≡ same → saids ≡ others → FitsText same index command others → FitsText cut index command saids
  alike_text cut same index command saids others one two fits =
      subst (λ (c : Cut). FitsText c index command saids) (sym one) (subst (λ (l : List Said). FitsText same index command l) (sym two) fits)

  both_answers : (conn session index : ℕ) (command : Command) → slice_get (session_commands whole conn session) index ≡ Some command
      → FitsText (all_cuts conn session) index command (said_to conn session index all_entries)
  both_answers conn session index command is =
      by_window (λ (c : ℕ). slice_get (session_commands whole c session) index ≡ Some command → FitsText (all_cuts c session) index command (said_to c session index all_entries)) r.count conn
      (λ within there.
      alike_text (all_cuts conn session) (cuts conn session) index command (said_to conn session index all_entries) (said_to conn session index entries)
      (first_cut r.count cuts later_cuts conn session within) (first_said r.count moments entries later conn session index within)
      (x.answers conn session index command (subst (λ (l : List Command). slice_get l index ≡ Some command) (first_commands r next conn session within) there)))
      (λ k there.
      alike_text (all_cuts (r.count + k) session) (later_cuts k session) index command (said_to (r.count + k) session index all_entries) (said_to k session index later)
      (later_cut r.count cuts later_cuts k session) (later_said r.count moments entries later k session index (none_behind k session))
      (y.answers k session index command (subst (λ (l : List Command). slice_get l index ≡ Some command) (later_commands r next own k session) there)))
      is

  -- ---- entries

  -- an entry of the first window is of one of its connections
  of_first : (e : MadeCall) → Contains entries e → e.named.name.conn < r.count
  of_first e there =
      by_window (λ (c : ℕ). Contains (of_session c e.named.name.session entries) e → c < r.count) r.count e.named.name.conn
      (λ within at. within)
      (λ k at. absurd (
      let here = subst (λ (l : List MadeCall). Contains l e) (none_behind k e.named.name.session) at in
      let within = here.1 in
      omega (arith, within)))
      (contains_kept (λ (other : MadeCall). is_of_session e.named.name.conn e.named.name.session other.named.name) entries e there (own_session e.named.name))

  first_failed : (e : MadeCall) → e.named.name.conn < r.count → MayHaveFailed r e → MayHaveFailed whole e
  first_failed e within may failed quiet =
      may failed (record {
        command = quiet.command;
        is = subst (λ (l : List Command). slice_get l e.named.name.index ≡ Some quiet.command) (first_commands r next e.named.name.conn e.named.name.session within) quiet.is;
        quiet = quiet.quiet;
      })

  later_failed : (e : MadeCall) → MayHaveFailed next e → MayHaveFailed whole (moved e)
  later_failed e may failed quiet =
      subst (λ (b : Bool). may_fail_quietly b e.named.call.call ≡ true) (sym server.forget)
      (may failed (record {
        command = quiet.command;
        is = subst (λ (l : List Command). slice_get l e.named.name.index ≡ Some quiet.command) (later_commands r next own e.named.name.conn e.named.name.session) quiet.is;
        quiet = quiet.quiet;
      }))

  size : last_moment whole ≡ moments + length next.records
  size = length-append r.records (map (raised r.count) next.records) ∙ ap (λ (n : ℕ). moments + n) (length-map next.records (raised r.count))

  first_timely : (e : MadeCall) → e.named.name.conn < r.count → IsTimely r cuts e → IsTimely whole all_cuts e
  first_timely e within timely =
      let conn = e.named.name.conn in
      let session = e.named.name.session in
      record {
        within = let low = timely.within in omega (arith, low, size);
        sent = let same = first_sent r next conn session within e.moment in let sent = timely.sent in omega (arith, same, sent);
        unended = λ ended.
            timely.unended (alike_ended e.named.name.index (marks_at whole.records conn session e.moment) (marks_at r.records conn session e.moment)
            (answered_by_cut all_cuts conn session) (answered_by_cut cuts conn session)
            (first_ended r next conn session within e.moment) (first_answered r cuts later_cuts conn session within) ended);
      }

  later_timely : (e : MadeCall) → IsTimely next later_cuts e → IsTimely whole all_cuts (moved e)
  later_timely e timely =
      let conn = e.named.name.conn in
      let session = e.named.name.session in
      let back : moments + e.moment - moments ≡ e.moment = omega arith in
      record {
        within = let low = timely.within in omega (arith, low, size);
        sent =
            let same = later_sent r next own conn session (moments + e.moment) ∙ ap (sent_in next.records conn session) back in
            let sent = timely.sent in
            omega (arith, same, sent);
        unended = λ ended.
            timely.unended (alike_ended e.named.name.index (marks_at whole.records (r.count + conn) session (moments + e.moment)) (marks_at next.records conn session e.moment)
            (answered_by_cut all_cuts (r.count + conn) session) (answered_by_cut later_cuts conn session)
            (later_ended r next own conn session (moments + e.moment) ∙ ap (marks_at next.records conn session) back) (later_answered r cuts later_cuts conn session) ended);
      }

  -- what holds of the entries of each window holds of all
  both_all : (P Q S : MadeCall → Type 0) → ((e : MadeCall) → e.named.name.conn < r.count → P e → S e) → ((e : MadeCall) → Q e → S (moved e)) → All P entries → All Q later → All S all_entries
  both_all P Q S first last one other =
      All-append S entries (map moved later)
      (λ k d within. first (get_or entries k d) (of_first (get_or entries k d) (All-contains_itself entries k d within)) (one k d within))
      (All-map S moved later (All-weaker Q (λ (e : MadeCall). S (moved e)) last later other))

  both_rise : AllPairs IsNotLater all_entries
  both_rise =
      pairs_append IsNotLater entries (map moved later) x.rises
      (mapped_pairs IsNotLater moved later (λ i j d before within. let order = y.rises i j d before within in omega (arith, order)))
      (All-weaker (IsTimely r cuts) (λ (e : MadeCall). All (IsNotLater e) (map moved later))
      (λ e timely.
      let low = timely.within in
      All-map (IsNotLater e) moved later (All-weaker (Contains later) (λ (o : MadeCall). IsNotLater e (moved o)) (λ o _. omega (arith, low)) later (All-contains_itself later)))
      entries x.timely)

  both_failures : All (MayHaveFailed whole) all_entries
  both_failures = both_all (MayHaveFailed r) (MayHaveFailed next) (MayHaveFailed whole) first_failed later_failed x.failures y.failures

  both_timely : All (IsTimely whole all_cuts) all_entries
  both_timely = both_all (IsTimely r cuts) (IsTimely next later_cuts) (IsTimely whole all_cuts) first_timely later_timely x.timely y.timely

  -- ---- keys

  module _ (a b c : Standing) (valid : IsStanding a) (one : LeadsBetween r cuts entries x a b) (two : LeadsBetween next later_cuts later y b c) where
    -- the steps at a key in the second window, named as in both
    abbrev steps_later : List ℕ → List KeyStep
    steps_later key = map (renamed (later_name r.count)) (y.steps key)

    abbrev all_steps : List ℕ → List KeyStep
    all_steps key = x.steps key ++ steps_later key

    -- the second window begins with what the first left
    goes_on : (key : List ℕ) → item_after (x.first key) (x.steps key) ≡ y.first key
    goes_on key = one.ends key ∙ sym (two.begins key)

    lasting_either : (key : List ℕ) → Contains b.lasting key → Contains a.lasting key ⊎ HasExptime whole key
    lasting_either key at = ⊎_elim (λ old. inl old) (λ new. inr (first_exptime r next own key new)) ((one.lasts key).0 at)

    first_loses : (key : List ℕ) → MayLoseAt r key → MayLoseAt whole key
    first_loses key (inl forget) = inl forget
    first_loses key (inr (inl given)) = inr (inl (first_exptime r next own key given))
    first_loses key (inr (inr before)) = inr (inr before)

    later_loses : (key : List ℕ) → MayLoseAt next key → MayLoseAt whole key
    later_loses key (inl forget) = inl (server.forget ∙ forget)
    later_loses key (inr (inl given)) = inr (inl (later_exptime r next own key given))
    later_loses key (inr (inr before)) =
        ⊎_elim (λ old. inr (inr (subst (λ (l : List (List ℕ)). Contains l key) (sym one.lasting_is) old))) (λ new. inr (inl new))
        (lasting_either key (subst (λ (l : List (List ℕ)). Contains l key) two.lasting_is before))

    all_loses : (key : List ℕ) (some more : Bool) → has_loss (x.steps key) ≡ some → has_loss (y.steps key) ≡ more → (some || more) ≡ true → MayLoseAt whole key
    all_loses key true more here later lost = first_loses key (one.losses key here)
    all_loses key false true here later lost = later_loses key (two.losses key later)
    all_loses key false false here later lost = absurd (cc)

    -- some step in one of the windows is a loss
    abbrev any_loss : List ℕ → Bool
    any_loss key = has_loss (x.steps key) || has_loss (y.steps key)

    any_is : (key : List ℕ) → has_loss (all_steps key) ≡ any_loss key
    any_is key = loss_both (x.steps key) (steps_later key) ∙ ap (λ (l : Bool). has_loss (x.steps key) || l) (renamed_loss (later_name r.count) (y.steps key))

    or_left : (some more : Bool) → some ≡ true → (some || more) ≡ true
    or_left true more is = refl
    or_left false more is = absurd (cc)

    or_right : (some more : Bool) → more ≡ true → (some || more) ≡ true
    or_right true more is = refl
    or_right false more is = is

    one_low : (t : Bool) (item : Item) (other : Option Item) → item.unique ≤ b.bound → All (IsUpTo b.bound) (first_uniques other)
        → All (IsUpTo b.bound) (first_uniques (if t then Some item else other))
    one_low true item other low rest = All-cons (IsUpTo b.bound) item.unique [] low (All-nil (IsUpTo b.bound))
    one_low false item other low rest = rest

    item_low : (items : List KeptItem) (key : List ℕ) → All (λ (kept : KeptItem). kept.item.unique ≤ a.bound) items → All (IsUpTo b.bound) (first_uniques (item_in items key))
    item_low [] key within = All-nil (IsUpTo b.bound)
    item_low (kept ∷ items) key within =
        let few = All-head (λ (k : KeptItem). k.item.unique ≤ a.bound) kept items within in
        let rises = one.rises in
        one_low (is_same key kept.key) kept.item (item_in items key) (omega (arith, few, rises))
        (item_low items key (All-tail (λ (k : KeptItem). k.item.unique ≤ a.bound) kept items within))

    first_low : (key : List ℕ) → All (IsUpTo b.bound) (first_uniques (x.first key))
    first_low key = subst (λ (o : Option Item). All (IsUpTo b.bound) (first_uniques o)) (sym (one.begins key)) (item_low a.items key valid.within)

    both_chains : (key : List ℕ) → IsChain whole key (x.first key) (placed_at r.shards key all_entries) (all_steps key)
    both_chains key =
        let first = x.chains key in
        let last = y.chains key in
        record {
          forget = any_loss key;
          losses = all_loses key (has_loss (x.steps key)) (has_loss (y.steps key)) refl refl;
          calls =
              subst (λ (l : List MadeCall). AreStepsOf l (all_steps key)) (sym (both_placed r.count moments entries later r.shards key))
              (both_steps (placed_at r.shards key entries) (map moved (placed_at r.shards key later)) (x.steps key) (steps_later key) first.calls
              (later_steps r.count moments (placed_at r.shards key later) (y.steps key)
              (subst (λ (n : ℕ). AreStepsOf (placed_at n key later) (y.steps key)) (sym server.shards) last.calls)));
          chain = record {
            allowed =
                allowed_both (any_loss key) (x.first key) (x.first key) (x.steps key) (steps_later key)
                (allowed_so first.forget (any_loss key) (x.first key) (x.first key) (x.first key) (x.steps key) (or_left (has_loss (x.steps key)) (has_loss (y.steps key))) first.chain.allowed)
                (λ start.
                subst (λ (o : Option Item). AreAllowed (any_loss key) start o (steps_later key)) (sym (goes_on key))
                (renamed_allowed (later_name r.count) (any_loss key) start (y.first key) (y.steps key)
                (allowed_so last.forget (any_loss key) (y.first key) start (y.first key) (y.steps key) (or_right (has_loss (x.steps key)) (has_loss (y.steps key))) last.chain.allowed)));
            new =
                new_both (a.bound + 1) b.bound c.bound (first_uniques (x.first key)) (first_uniques (y.first key)) (x.steps key) (steps_later key) (first_low key) (one.uniques key)
                (renamed_within (later_name r.count) (b.bound + 1) c.bound (y.steps key) (two.uniques key)) first.chain.new
                (renamed_new (later_name r.count) (first_uniques (y.first key)) (y.steps key) last.chain.new);
          };
        }

    -- ---- both

    pub both_explained : IsExplainedBy whole all_cuts all_entries
    both_explained = record {
      sessions = both_sessions r next own x.sessions y.sessions;
      cut = both_cuts r next cuts later_cuts own x.sessions.connections x.cut y.cut;
      fit = both_fit;
      due = both_due;
      answers = both_answers;
      failures = both_failures;
      rises = both_rise;
      timely = both_timely;
      first = x.first;
      cold = x.cold;
      steps = all_steps;
      chains = both_chains;
    }

    both_lasts : (key : List ℕ) → Contains c.lasting key ↔ (Contains a.lasting key ⊎ HasExptime whole key)
    both_lasts key = (forth, back)
      where
        forth : Contains c.lasting key → Contains a.lasting key ⊎ HasExptime whole key
        forth at = ⊎_elim (lasting_either key) (λ new. inr (later_exptime r next own key new)) ((two.lasts key).0 at)

        back : Contains a.lasting key ⊎ HasExptime whole key → Contains c.lasting key
        back (inl old) = (two.lasts key).1 (inl ((one.lasts key).1 (inl old)))
        back (inr given) = ⊎_elim (λ here. (two.lasts key).1 (inl ((one.lasts key).1 (inr here)))) (λ here. (two.lasts key).1 (inr here)) (either_exptime r next own key given)

    pub both_lead : LeadsBetween whole all_cuts all_entries both_explained a c
    unfolding both_explained
    both_lead = record {
      begins = one.begins;
      ends = λ key.
          after_both (x.first key) (x.steps key) (steps_later key) ∙ ap (λ (o : Option Item). item_after o (steps_later key)) (goes_on key)
          ∙ renamed_after (later_name r.count) (y.first key) (y.steps key) ∙ two.ends key;
      losses = λ key some. all_loses key (has_loss (x.steps key)) (has_loss (y.steps key)) refl refl (sym (any_is key) ∙ some);
      lasting_is = one.lasting_is;
      lasts = both_lasts;
      uniques = λ key.
          let rises = two.rises in
          let began = one.rises in
          within_both (a.bound + 1) c.bound (x.steps key) (steps_later key)
          (wider (a.bound + 1) b.bound (a.bound + 1) c.bound (x.steps key) (omega arith) rises (one.uniques key))
          (wider (b.bound + 1) c.bound (a.bound + 1) c.bound (steps_later key) (omega (arith, began)) (omega arith) (renamed_within (later_name r.count) (b.bound + 1) c.bound (y.steps key) (two.uniques key)));
      rises = let one_rises = one.rises in let two_rises = two.rises in omega (arith, one_rises, two_rises);
    }

pub joined_between : (r next : Recorded) (a b c : Standing) → HasConnections r → AreOfOneServer r next → IsStanding a
    → IsExplainedBetween r a b → IsExplainedBetween next b c → IsExplainedBetween (joined_windows r next) a c
joined_between r next a b c own server valid one two = record {
  cuts = joined_cuts r.count one.cuts two.cuts;
  entries = both r.count (length r.records) one.entries two.entries;
  explained = both_explained r next own server one.cuts two.cuts one.entries two.entries one.explained two.explained a b c valid one.leads two.leads;
  leads = both_lead r next own server one.cuts two.cuts one.entries two.entries one.explained two.explained a b c valid one.leads two.leads;
}
