-- A track at its start, after a command that is done, and after one more call.
use Rattle.std.specs.List.{slice_get}
use Rattle.std.proofs.Common.{◌≡◌, ℕ, ◌+◌, ◌<◌, ◌≤◌, Bool, true, false, List, [], ◌∷◌, ◌++◌, length, take, drop, map, nat_lt, All, None, Some, refl, sym, ap, ◌∙◌, subst, arith}
use Rattle.std.proofs.lemmas.List.{map-append, length-append, take_all, take-append-le}
use Rattle.std.proofs.lemmas.List.Elements.{All-nil, All-cons, All-append, All-weaker}
use Rattle.mc_allows.specs.declared.call_name.CallName.{CallName}
use Rattle.mc_allows.specs.declared.said.Said.{Said}
use Rattle.mc_answers.specs.Said.{said_calls}
use Rattle.mc_parse.specs.declared.command.Command.{Command}
use Rattle.zy_times.specs.Sessions.{marks_at}
use Rattle.zy_times.specs.Times.{trues, number_if}
use Rattle.zy_verdict.specs.Entries.{NamedCall, MadeCall, is_of_session, of_session, said_to}
use Rattle.zy_confirm.specs.NextText.{IsNextText}
use Rattle.zy_confirm.specs.declared.store.Store.{Store}
use Rattle.zy_sessions.specs.declared.session.Session.{Session}
use Rattle.zy_explain.specs.declared.track.Track.{Track}
use Rattle.zy_explain.specs.Making.{FailsLawfully, NotesText, MakesNext}
use Rattle.zy_explain.specs.Following.{calls_made, IsCutTo, IsRightIn, TrackStands, Settles}
use Rattle.zy_explain.proofs.SaidLemmas.{session_own, session_other, said_own, said_else, said_elsewhere, said_past}
use Rattle.zy_explain.proofs.CallLemmas.{named_at, start_made, calls_said, calls_ended}
use Rattle.zy_explain.proofs.CutLemmas.{cut_start, cut_same, cut_more}

-- ---- flags

trues_push : (flags : List Bool) (flag : Bool) → trues (flags ++ flag ∷ []) ≡ trues flags + number_if flag
trues_push [] true = refl
trues_push [] false = refl
trues_push (true ∷ flags) flag = let rest = trues_push flags flag in omega (arith, rest)
trues_push (false ∷ flags) flag = trues_push flags flag

-- ---- the start

pub track_start : (shards : ℕ) (forget : Bool) (s : Session) (output : List ℕ) (conn session : ℕ) (t : Track) → t.at ≡ 0 → t.answered.items ≡ [] → t.count ≡ 0 → t.saids.items ≡ []
    → TrackStands shards forget s output conn session [] t
track_start shards forget s output conn session t first no_flags no_count no_saids = record {
  calls = sym (ap (λ (l : List Bool). calls_made shards conn session s.commands.items (length l) (length t.saids.items)) no_flags
      ∙ ap (λ (l : List Said). calls_made shards conn session s.commands.items 0 (length l)) no_saids ∙ start_made shards conn session s.commands.items);
  saids = sym no_saids;
  cut = cut_start s.commands.items (λ i. said_to conn session i []) output t.answered.items t.at no_flags first;
  count = no_count ∙ sym (ap trues no_flags);
  right = All-nil (IsRightIn forget s t.answered.items);
}

-- ---- a command that is done

-- flags more change nothing for an entry
right_more : (forget : Bool) (s : Session) (old new : List Bool) (flag : Bool) → new ≡ old ++ flag ∷ [] → (e : MadeCall) → IsRightIn forget s old e → IsRightIn forget s new e
right_more forget s old new flag is e right =
    let known = right.known in
    let long = ap (λ (l : List Bool). length l) is ∙ length-append old (flag ∷ []) in
    let same : take e.named.name.index new ≡ take e.named.name.index old = ap (take e.named.name.index) is ∙ take-append-le e.named.name.index old (flag ∷ []) known in
    record {
      known = omega (arith, known, long);
      first = right.first;
      is = right.is;
      sent = right.sent;
      unended = λ records conn session marks within ended.
          right.unended records conn session marks within (subst (λ (l : List Bool). trues l < marks_at records conn session e.moment) same ended);
      lawful = right.lawful;
    }

module _ (shards : ℕ) (forget : Bool) (s : Session) (output : List ℕ) (old new : Track) (command : Command) (n : ℕ) (is : slice_get s.commands.items (length old.answered.items) ≡ Some command)
    (past : slice_get (said_calls shards command) (length old.saids.items) ≡ None) (next : IsNextText command old.saids.items (drop old.at output) n) (notes : NotesText old new n) where
  pub track_ended : Settles shards forget s output old new
  track_ended conn session entries stands =
      let commands = s.commands.items in
      let long : length new.answered.items ≡ length old.answered.items + 1 = ap (λ (l : List Bool). length l) notes.answered ∙ length-append old.answered.items (nat_lt 0 n ∷ []) in
      let empty : length new.saids.items ≡ 0 = ap (λ (l : List Said). length l) notes.saids in
      record {
        calls =
            stands.calls ∙ sym (calls_ended shards conn session commands (length old.answered.items) (length old.saids.items) command is past)
            ∙ ap (λ (k : ℕ). calls_made shards conn session commands k 0) (sym long) ∙ ap (λ (k : ℕ). calls_made shards conn session commands (length new.answered.items) k) (sym empty);
        saids =
            said_past conn session (length old.answered.items) (length new.answered.items) entries
            (All-weaker (IsRightIn forget s old.answered.items) (λ (e : MadeCall). e.named.name.index ≤ length old.answered.items) (λ e right. right.known) (of_session conn session entries) stands.right)
            (omega (arith, long))
            ∙ sym notes.saids;
        cut = cut_more commands (λ i. said_to conn session i entries) output old.answered.items old.at stands.cut command old.saids.items n is stands.saids next new.answered.items new.at notes.answered notes.at;
        count = notes.count ∙ ap (λ (k : ℕ). k + number_if (nat_lt 0 n)) stands.count ∙ sym (ap trues notes.answered ∙ trues_push old.answered.items (nat_lt 0 n));
        right = All-weaker (IsRightIn forget s old.answered.items) (IsRightIn forget s new.answered.items) (right_more forget s old.answered.items new.answered.items (nat_lt 0 n) notes.answered) (of_session conn session entries) stands.right;
      }

-- ---- one more call

-- an entry of another session changes nothing
pub track_kept : (shards : ℕ) (forget : Bool) (s : Session) (output : List ℕ) (conn session : ℕ) (entries : List MadeCall) (e : MadeCall) (t : Track) → is_of_session conn session e.named.name ≡ false
    → TrackStands shards forget s output conn session entries t → TrackStands shards forget s output conn session (entries ++ e ∷ []) t
track_kept shards forget s output conn session entries e t other stands =
    let same = session_other conn session entries e other in
    record {
      calls = ap (map (λ (x : MadeCall). x.named)) same ∙ stands.calls;
      saids = said_elsewhere conn session entries e (length t.answered.items) other ∙ stands.saids;
      cut = cut_same s.commands.items (λ i. said_to conn session i entries) (λ i. said_to conn session i (entries ++ e ∷ [])) output t.answered.items t.at
          (λ i below. sym (said_elsewhere conn session entries e i other)) stands.cut;
      count = stands.count;
      right = subst (All (IsRightIn forget s t.answered.items)) (sym same) stands.right;
    }

module _ (shards : ℕ) (forget : Bool) (may_lose : List ℕ → Bool) (s : Session) (output : List ℕ) (before after : Store) (old new : Track) (name : CallName) (latest moment : ℕ)
    (m : MakesNext shards forget may_lose s before after old new name latest moment) (entries : List MadeCall) where
  -- the entry
  abbrev pub added : MadeCall
  added = record { named = record { name = name; call = m.call }; said = m.said; moment = moment }

  named_same : (conn session : ℕ) → name.conn ≡ conn → name.session ≡ session → added.named ≡ named_at conn session (length old.answered.items) (length old.saids.items) m.call
  named_same conn session own_conn own_session = λ i. record {
    name = record { index = m.index_is i; session = own_session i; conn = own_conn i; part = m.part_is i };
    call = m.call;
  }

  right_added : (conn session : ℕ) → TrackStands shards forget s output conn session entries old → IsRightIn forget s new.answered.items added
  right_added conn session stands =
      let flags : new.answered.items ≡ old.answered.items = ap (λ v. v.items) m.noted.answered in
      let long = ap (λ (l : List Bool). length l) flags in
      let at = m.index_is in
      record {
        known = omega (arith, at, long);
        first = m.timely.first;
        is = ap (slice_get s.sent.items) at ∙ m.timely.is;
        sent = m.timely.sent;
        unended = λ records c k marks within ended.
            m.timely.unended records c k name.index new.answered.items marks
            (ap trues (take_all name.index new.answered.items (omega (arith, at, long))) ∙ ap trues flags ∙ sym stands.count) within ended;
        lawful = λ command is failed quiet.
            let both : Some command ≡ Some m.command = sym is ∙ ap (slice_get s.commands.items) at ∙ m.is in
            let one : m.command ≡ command = cc in
            subst (λ (k : Command). FailsLawfully forget k m.call m.said) one m.lawful failed quiet;
      }

  pub track_said : (conn session : ℕ) → name.conn ≡ conn → name.session ≡ session → is_of_session conn session name ≡ true → TrackStands shards forget s output conn session entries old
      → TrackStands shards forget s output conn session (entries ++ added ∷ []) new
  track_said conn session own_conn own_session own stands =
      let commands = s.commands.items in
      let same = session_own conn session entries added own in
      let flags : new.answered.items ≡ old.answered.items = ap (λ v. v.items) m.noted.answered in
      let long = ap (λ (l : List Bool). length l) flags in
      let more : length new.saids.items ≡ length old.saids.items + 1 = ap (λ (l : List Said). length l) m.noted.saids ∙ length-append old.saids.items (m.said ∷ []) in
      record {
        calls =
            ap (map (λ (x : MadeCall). x.named)) same ∙ map-append (λ (x : MadeCall). x.named) (of_session conn session entries) (added ∷ [])
            ∙ ap (λ (l : List NamedCall). l ++ added.named ∷ []) stands.calls
            ∙ ap (λ (x : NamedCall). calls_made shards conn session commands (length old.answered.items) (length old.saids.items) ++ x ∷ []) (named_same conn session own_conn own_session)
            ∙ sym (calls_said shards conn session commands (length old.answered.items) (length old.saids.items) m.command m.is m.call m.part)
            ∙ ap (λ (k : ℕ). calls_made shards conn session commands k (length old.saids.items + 1)) (sym long)
            ∙ ap (λ (k : ℕ). calls_made shards conn session commands (length new.answered.items) k) (sym more);
        saids =
            said_own conn session entries added (length new.answered.items) own (m.index_is ∙ sym long)
            ∙ ap (λ (l : List Said). l ++ m.said ∷ []) (ap (λ (k : ℕ). said_to conn session k entries) long ∙ stands.saids)
            ∙ sym m.noted.saids;
        cut =
            let at = m.index_is in
            cut_same commands (λ i. said_to conn session i entries) (λ i. said_to conn session i (entries ++ added ∷ [])) output new.answered.items new.at
            (λ i below. sym (said_else conn session entries added i own (λ here. absurd (omega (arith, at, here, below, long)))))
            (subst (λ (l : List Bool). IsCutTo commands (λ i. said_to conn session i entries) output l new.at) (sym flags)
            (subst (λ (k : ℕ). IsCutTo commands (λ i. said_to conn session i entries) output old.answered.items k) (sym m.noted.at) stands.cut));
        count = m.noted.count ∙ stands.count ∙ ap trues (sym flags);
        right =
            let P = IsRightIn forget s new.answered.items in
            subst (All P) (sym same)
            (All-append P (of_session conn session entries) (added ∷ []) (subst (λ (l : List Bool). All (IsRightIn forget s l) (of_session conn session entries)) (sym flags) stands.right)
            (All-cons P added [] (right_added conn session stands) (All-nil P)));
      }
