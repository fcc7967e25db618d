-- What is found of calls.
use Rattle.std.proofs.Common.{◌≡◌, inl, inr, ℕ, ◌<◌, Bool, true, false, List, length, refl, sym, ◌∙◌, ap, true≢false, arith}
use Rattle.std.proofs.lemmas.List.Elements.{All-contains}
use Rattle.std.specs.Prelude.{Option, None, Some, Result, Ok, Err, IfOk, IfSome}
use Rattle.std.specs.BTreeSet.{BTreeSet, contains}
use Rattle.std.specs.Cmp.Lexicographic.{slice_cmp}
use Rattle.std.specs.List.{slice_get}
use Rattle.std.specs.Ordering.{nat_cmp}
use Rattle.mc_allows.specs.declared.call_name.CallName.{CallName}
use Rattle.zy_capture.specs.declared.record.Record.{Record}
use Rattle.zy_explain.specs.declared.rules.Rules.{Rules}
use Rattle.zy_explain.specs.Judged.{judged_after}
use Rattle.zy_explain.proofs.BetweenLemmas.{is_one}
use Rattle.zy_base.specs.declared.outside.NoMemory.{NoMemory}
use Rattle.zy_observed.specs.declared.refuting.Refuted.{Refuted}
use Rattle.zy_observed.specs.Shown.{IsShown, named_of}
use Rattle.zy_observed.specs.AtKey.{HasNoCourse, IsNamedAt, IsStoreAt}
use Rattle.zy_refute.specs.declared.observed.Observed.{Observed}
use Rattle.zy_refute.specs.declared.store.Store.{Store}
use Rattle.zy_sessions.specs.declared.line.Line.{Line}
use Rattle.zy_sessions.specs.declared.session.Session.{Session}
use Rattle.zy_sessions.specs.declared.sessions.Sessions.{Sessions}
use Rattle.zy_sessions.specs.Sessions.{SessionsHold, session_at, session_in}
use Rattle.zy_verdict.specs.Course.{HasCourse}
use Rattle.zy_verdict.specs.Explained.{IsExplained}
use Rattle.zy_verdict.specs.Losses.{MayLoseAt, HasExptimeIn}
use Rattle.zy_verdict.specs.Recorded.{Recorded, session_commands}
use Rattle.zygos_judge.specs.Finding.{IsRefutedCall, IsWithoutCourse, number_of_command}
use Rattle.zygos_judge.specs.Calls.{IsCulprit}

-- ---- numbers of commands

in_line : (sessions : Sessions) (count : ℕ) (r : Recorded) (conn session : ℕ) (s : Session) → SessionsHold sessions count r.records → (line : Option Line) → slice_get sessions.lines.items conn ≡ line → session_in line session ≡ Some s → s.commands.items ≡ session_commands r conn session
in_line sessions count r conn session s hold None at is = absurd (cc)
in_line sessions count r conn session s hold (Some line) at is = ((hold.each conn line at).sessions session s is).commands

-- a session among the notes has the commands of the recording
pub noted_commands : (sessions : Sessions) (count : ℕ) (r : Recorded) (conn session : ℕ) (s : Session) → SessionsHold sessions count r.records → session_at sessions conn session ≡ Some s → length (session_commands r conn session) ≡ length s.commands.items
noted_commands sessions count r conn session s hold is =
    sym (ap (λ l. length l) (in_line sessions count r conn session s hold (slice_get sessions.lines.items conn) refl is))

-- ---- losses

-- if not every item may be lost and its key had no exptime before, the item of a key may be lost only if some command gives
-- the key an exptime
pub lasting_lost : (lasting : BTreeSet (List ℕ)) (rules : Rules) (count : ℕ) (records : List Record) (outputs : List (List (List ℕ))) (key : List ℕ) → rules.forget ≡ false
    → contains (slice_cmp nat_cmp) lasting key ≡ false → MayLoseAt (judged_after lasting.keys rules count records outputs) key → HasExptimeIn records key
lasting_lost lasting rules count records outputs key kept before (inl forget) = let both : true ≡ false = sym forget ∙ kept in absurd (true≢false both)
lasting_lost lasting rules count records outputs key kept before (inr (inl given)) = given
lasting_lost lasting rules count records outputs key kept before (inr (inr at)) = let both : true ≡ false = sym (is_one lasting key at) ∙ before in absurd (true≢false both)

pub store_so : (lasting : List (List ℕ)) (rules : Rules) (sessions : Sessions) (key : List ℕ) (forget : Bool)
    → ((count : ℕ) (records : List Record) (outputs : List (List (List ℕ))) → SessionsHold sessions count records → MayLoseAt (judged_after lasting rules count records outputs) key → forget ≡ true)
    → (count : ℕ) (records : List Record) (outputs : List (List (List ℕ))) → SessionsHold sessions count records → IsStoreAt (judged_after lasting rules count records outputs) key (record { warm = rules.warm; forget = forget })
store_so lasting rules sessions key forget lost count records outputs hold = record { warm = λ is. is; forget = lost count records outputs hold }

-- ---- refuted calls

-- a call at a key without a course is a culprit
pub culprit_at : (lasting : List (List ℕ)) (rules : Rules) (sessions : Sessions) (calls : List Observed) (store : Store) (key : List ℕ) (name : CallName) → HasNoCourse rules.shards store calls key → IsNamedAt rules.shards key calls name
    → ((count : ℕ) (records : List Record) (outputs : List (List (List ℕ))) → SessionsHold sessions count records → IsStoreAt (judged_after lasting rules count records outputs) key store) → IsCulprit lasting rules sessions calls name
culprit_at lasting rules sessions calls store key name none at so = λ count records outputs hold shown.
    let r : Recorded = judged_after lasting rules count records outputs in
    let own = (All-contains (IsShown r) calls at.x shown.each at.is.there).belongs in
    record {
      named = named_of at.x;
      named_is = sym at.named;
      command = own.command;
      is = own.is;
      key = key;
      about = at.is.about;
      none = λ has. none r refl shown (so count records outputs hold) has;
    }

pub culprit_found : (lasting : List (List ℕ)) (rules : Rules) (sessions : Sessions) (calls : List Observed) (store : Store) (key : List ℕ) (found : Result (Option Refuted) NoMemory) → IfOk found (λ o. IfSome o (λ refuted. HasNoCourse rules.shards store calls key))
    → IfOk found (λ o. IfSome o (λ refuted. IsNamedAt rules.shards key calls refuted.name))
    → ((count : ℕ) (records : List Record) (outputs : List (List (List ℕ))) → SessionsHold sessions count records → IsStoreAt (judged_after lasting rules count records outputs) key store)
    → IfOk found (λ o. IfSome o (λ refuted. IsCulprit lasting rules sessions calls refuted.name))
culprit_found lasting rules sessions calls store key (Ok (Some refuted)) none at so = culprit_at lasting rules sessions calls store key refuted.name none at so
culprit_found lasting rules sessions calls store key (Ok None) none at so = tt
culprit_found lasting rules sessions calls store key (Err refused) none at so = tt

-- a recording with a culprit is not explained
pub culprit_refutes : (r : Recorded) (name : CallName) → ((q : Recorded) → IsExplained q → (key : List ℕ) → HasCourse q key) → IsRefutedCall r name → IsExplained r → ⊥
culprit_refutes r name courses call explained = call.none (courses r explained call.key)

pub culprit_named : (r : Recorded) (name : CallName) (command : ℕ) → number_of_command r name ≡ command → IsRefutedCall r name → IsWithoutCourse r name.conn command name.part
culprit_named r name command is call = record { name = name; conn_is = refl; command_is = is; part_is = refl; call = call }

-- ---- answers

-- what follows from what holds of an answer holds of it
pub answer_so : {A E : Type 0} (found : Result A E) (P Q : A → Type 0) → ((answer : A) → P answer → Q answer) → IfOk found P → IfOk found Q
answer_so (Ok answer) P Q implies has = implies answer has
answer_so (Err failure) P Q implies has = tt
