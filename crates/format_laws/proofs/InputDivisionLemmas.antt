-- An input is divided into parts in one way, and each part gives one thing.
use Rattle.std.proofs.Common.{◌≡◌, ℕ, ◌+◌, List, [], ◌∷◌, ◌++◌, refl, sym, ◌∙◌, ap, subst, arith}
use Rattle.std.specs.List.{AllByRecursion}
use Rattle.zy_capture.specs.declared.record.Record.{Record}
use Rattle.zy_capture.specs.declared.session_bytes.SessionBytes.{SessionBytes}
use Rattle.zy_capture.specs.Streams.{no_bytes, with_records}
use Rattle.zy_capture.specs.Outputs.{AllOutputs, AreOutputs, HasSessions}
use Rattle.zy_capture.specs.Replies.{session_items, all_items, items_of}
use Rattle.zy_capture.specs.Verdict as Captures
use Rattle.zy_capture.specs.RepliesVerdict as Replies
use Rattle.zy_journal.specs.declared.journal.Journal.{Journal}
use Rattle.zy_journal_reader.specs.Verdict as Journals
use Rattle.zy_input.specs.Parts.{HasStreams, IsMadeOfParts}
use Rattle.zy_input.proofs.FormatLemmas.{one_first}
use Rattle.zy_input.proofs.CaptureLemmas as OfCapture
use Rattle.zy_input.proofs.JournalLemmas as InJournal
use Rattle.zy_input.proofs.WholeLemmas.{is_capture, is_journal}
use Rattle.zy_input.proofs.FaultLemmas.{after_capture, after_journal}

-- ---- outputs by their items

-- what comes after a connection's items is of the next one
abbrev ComesLater : ℕ → List SessionBytes → Type 0
ComesLater conn items = (item : SessionBytes) (others : List SessionBytes) → items ≡ item ∷ others → item.conn ≡ conn + 1

comes_later : (version conn : ℕ) (connections : List (List (List ℕ))) → AllByRecursion (HasSessions version) connections → ComesLater conn (all_items (conn + 1) connections)
comes_later version conn [] all item others is = cc
comes_later version conn ([] ∷ connections) all item others is = absurd (omega (arith, all.0.some))
comes_later version conn ((bytes ∷ sessions) ∷ connections) all item others is =
    let head : record { conn = conn + 1; session = 0; bytes = bytes } ≡ item = cc in
    sym (ap (λ (i : SessionBytes). i.conn) head)

-- the sessions of a connection are those of its items
record AreSame (first second : List (List ℕ)) (a b : List SessionBytes) : Type 0 where
  sessions : first ≡ second
  others : a ≡ b

same_sessions : (conn number : ℕ) (first second : List (List ℕ)) (a b : List SessionBytes) → ComesLater conn a → ComesLater conn b → session_items conn number first ++ a ≡ session_items conn number second ++ b → AreSame first second a b
same_sessions conn number [] [] a b one two is = record { sessions = refl; others = is }
same_sessions conn number [] (y ∷ second) a b one two is =
    let later : conn ≡ conn + 1 = one (record { conn = conn; session = number; bytes = y }) (session_items conn (number + 1) second ++ b) is in
    absurd (omega (arith, later))
same_sessions conn number (x ∷ first) [] a b one two is =
    let later : conn ≡ conn + 1 = two (record { conn = conn; session = number; bytes = x }) (session_items conn (number + 1) first ++ a) (sym is) in
    absurd (omega (arith, later))
same_sessions conn number (x ∷ first) (y ∷ second) a b one two is =
    let left : SessionBytes = record { conn = conn; session = number; bytes = x } in
    let right : SessionBytes = record { conn = conn; session = number; bytes = y } in
    let head : left ≡ right = cc in
    let tail : session_items conn (number + 1) first ++ a ≡ session_items conn (number + 1) second ++ b = cc in
    let bytes : x ≡ y = ap (λ (i : SessionBytes). i.bytes) head in
    let on = same_sessions conn (number + 1) first second a b one two tail in
    record { sessions = ap (λ (l : List ℕ). l ∷ first) bytes ∙ ap (λ (l : List (List ℕ)). y ∷ l) on.sessions; others = on.others }

same_connections : (version conn : ℕ) (first second : List (List (List ℕ))) → AllByRecursion (HasSessions version) first → AllByRecursion (HasSessions version) second → all_items conn first ≡ all_items conn second → first ≡ second
same_connections version conn [] [] one two is = refl
same_connections version conn [] ([] ∷ second) one two is = absurd (omega (arith, two.0.some))
same_connections version conn [] ((bytes ∷ sessions) ∷ second) one two is = cc
same_connections version conn ([] ∷ first) [] one two is = absurd (omega (arith, one.0.some))
same_connections version conn ((bytes ∷ sessions) ∷ first) [] one two is = cc
same_connections version conn (left ∷ first) (right ∷ second) one two is =
    let same = same_sessions conn 0 left right (all_items (conn + 1) first) (all_items (conn + 1) second) (comes_later version conn first one.1) (comes_later version conn second two.1) is in
    ap (λ (l : List (List ℕ)). l ∷ first) same.sessions ∙ ap (λ (l : List (List (List ℕ))). right ∷ l) (same_connections version (conn + 1) first second one.1 two.1 same.others)

same_outputs : (first second : AllOutputs) → AreOutputs first → AreOutputs second → first.version ≡ second.version → items_of first ≡ items_of second → first ≡ second
same_outputs first second one two version items =
    let sessions : first.sessions ≡ second.sessions = same_connections second.version 0 first.sessions second.sessions (subst (λ (v : ℕ). AllByRecursion (HasSessions v) first.sessions) version one.sessions) two.sessions items in
    ap (λ (v : ℕ). record first { version = v }) version ∙ ap (λ (l : List (List (List ℕ))). record second { sessions = l }) sessions

-- ---- texts

record AreGood (count other : ℕ) (items others : List Record) : Type 0 where
  counts : count ≡ other
  records : items ≡ others

good_captures : (version version' count count' : ℕ) (records records' : List Record) → Captures.Verdict.Good version count records ≡ Captures.Verdict.Good version' count' records' → AreGood count count' records records'
good_captures version version' count count' records records' is = record { counts = cc; records = cc }

same_streams : (text : List ℕ) (first second : List (List (List ℕ))) → HasStreams text first → HasStreams text second → first ≡ second
same_streams text first second one two =
    let same = good_captures one.version two.version one.count two.count one.records two.records (sym one.good ∙ two.good) in
    one.joined ∙ ap (λ (n : ℕ). with_records (no_bytes n) one.records) same.counts ∙ ap (λ (l : List Record). with_records (no_bytes two.count) l) same.records ∙ sym two.joined

good_journals : (first second : Journal) → Journals.JournalVerdict.Good first ≡ Journals.JournalVerdict.Good second → first ≡ second
good_journals first second is = cc

record AreFiles (version other : ℕ) (files others : List SessionBytes) : Type 0 where
  versions : version ≡ other
  items : files ≡ others

good_replies : (version other : ℕ) (items others : List SessionBytes) → Replies.Verdict.Good version items ≡ Replies.Verdict.Good other others → AreFiles version other items others
good_replies version other items others is = record { versions = cc; items = cc }

-- ---- one division

-- two divisions of a text have the same texts
record AreDivided (text : List ℕ) (capture other_capture journal other_journal replies other_replies : List ℕ) : Type 0 where
  captures : capture ≡ other_capture
  journals : journal ≡ other_journal
  files : replies ≡ other_replies

divided : (text : List ℕ) (s t : List (List (List ℕ))) (j k : Journal) (o p : AllOutputs) (one : IsMadeOfParts text s j o) (two : IsMadeOfParts text t k p) → AreDivided text one.capture_text two.capture_text one.journal_text two.journal_text one.replies_text two.replies_text
divided text s t j k o p one two =
    let good = is_capture one.capture_text s one.of_capture in
    let good' = is_capture two.capture_text t two.of_capture in
    let whole = is_journal one.journal_text j one.of_journal in
    let whole' = is_journal two.journal_text k two.of_journal in
    let behind = after_capture text one.capture_text (one.journal_text ++ one.replies_text) two.capture_text (two.journal_text ++ two.replies_text) one.whole two.whole good good' in
    record {
      captures = one_first Captures.captures Captures.is_good OfCapture.once one.capture_text (one.journal_text ++ one.replies_text) two.capture_text (two.journal_text ++ two.replies_text) (sym one.whole ∙ two.whole) good good';
      journals = one_first Journals.journals Journals.is_good_journal InJournal.once one.journal_text one.replies_text two.journal_text two.replies_text behind whole whole';
      files = after_journal one.journal_text one.replies_text two.journal_text two.replies_text behind whole whole';
    }

pub one_streams : (text : List ℕ) (s t : List (List (List ℕ))) (j k : Journal) (o p : AllOutputs) → IsMadeOfParts text s j o → IsMadeOfParts text t k p → s ≡ t
one_streams text s t j k o p one two =
    let same = divided text s t j k o p one two in
    same_streams two.capture_text s t (subst (λ (l : List ℕ). HasStreams l s) same.captures one.of_capture) two.of_capture

pub one_journal : (text : List ℕ) (s t : List (List (List ℕ))) (j k : Journal) (o p : AllOutputs) → IsMadeOfParts text s j o → IsMadeOfParts text t k p → j ≡ k
one_journal text s t j k o p one two =
    let same = divided text s t j k o p one two in
    good_journals j k (sym one.of_journal ∙ ap (λ (l : List ℕ). Journals.journal_verdict l) same.journals ∙ two.of_journal)

pub one_outputs : (text : List ℕ) (s t : List (List (List ℕ))) (j k : Journal) (o p : AllOutputs) → AreOutputs o → AreOutputs p → IsMadeOfParts text s j o → IsMadeOfParts text t k p → o ≡ p
one_outputs text s t j k o p lawful lawful' one two =
    let same = divided text s t j k o p one two in
    let files = good_replies o.version p.version (items_of o) (items_of p) (sym one.of_replies ∙ ap (λ (l : List ℕ). Replies.verdict l) same.files ∙ two.of_replies) in
    same_outputs o p lawful lawful' files.versions files.items
