-- What is sent stays sent, and what is ended stays ended.
use Rattle.std.proofs.Common.{◌≡◌, ℕ, zero, suc, ◌+◌, ◌≤◌, ◌==◌, ◌&&◌, Bool, true, false, if◌then◌else◌, List, [], ◌∷◌, ◌++◌, length, get_or, take, map, refl, sym, ap, ◌∙◌, append_assoc, arith}
use Rattle.std.proofs.lemmas.List.{length-append}
use Rattle.mc_parse.specs.declared.command.Command.{Command}
use Rattle.zy_capture.specs.declared.record.Record.{Record}
use Rattle.zy_capture.specs.declared.record.Record.TheVariants as Kinds
use Rattle.zy_capture.specs.Streams.{stream, stream_after}
use Rattle.zy_check.specs.Answered.{has_bytes}
use Rattle.zy_frame.specs.Cut.{commands_of}
use Rattle.zy_frame.proofs.CutLaws.{commands_first}
use Rattle.zy_times.specs.Sessions.{sent_in, marks_at}
use Rattle.zy_times.specs.Times.{marks_in, trues}
use Rattle.zy_times.proofs.FirstLemmas.{later}
use Rattle.zy_times.proofs.CountLemmas.{count_grows}
use Rattle.zy_times.proofs.RecordLemmas.{marks_rise}

-- ---- streams

-- a text begins with another
abbrev IsLonger : List ℕ → List ℕ → Type 0
IsLonger short long = (more : List ℕ) × (long ≡ short ++ more)

segment_longer : (b : Bool) (bytes short long : List ℕ) → IsLonger short long
    → IsLonger (if b then bytes ++ short else short) (if b then bytes ++ long else long)
segment_longer true bytes short long w = (w.0, ap (λ (l : List ℕ). bytes ++ l) w.1 ∙ sym (append_assoc bytes short w.0))
segment_longer false bytes short long w = w

close_longer : (b : Bool) (short long other_short other_long : List ℕ) → IsLonger short long → IsLonger other_short other_long
    → IsLonger (if b then short else other_short) (if b then long else other_long)
close_longer true short long other_short other_long here other = here
close_longer false short long other_short other_long here other = other

stream_longer : (records : List Record) (r : Record) (before conn session : ℕ)
    → IsLonger (stream_after before conn session records) (stream_after before conn session (records ++ r ∷ []))
stream_longer [] r before conn session = (stream_after before conn session (r ∷ []), refl)
stream_longer (Kinds.Segment s ∷ records) r before conn session =
    segment_longer (s.conn == conn && before == session) s.bytes (stream_after before conn session records) (stream_after before conn session (records ++ r ∷ []))
    (stream_longer records r before conn session)
stream_longer (Kinds.Close other ∷ records) r before conn session =
    close_longer (other == conn) (stream_after (before + 1) conn session records) (stream_after (before + 1) conn session (records ++ r ∷ []))
    (stream_after before conn session records) (stream_after before conn session (records ++ r ∷ []))
    (stream_longer records r (before + 1) conn session) (stream_longer records r before conn session)

-- ---- counts

-- the number of commands of a session
abbrev count_of : ℕ → ℕ → List Record → ℕ
count_of conn session records = length (commands_of (stream conn session records))

count_rises : (conn session : ℕ) (records : List Record) (r : Record) → count_of conn session records ≤ count_of conn session (records ++ r ∷ [])
count_rises conn session records r =
    let longer = stream_longer records r 0 conn session in
    let first = commands_first (stream conn session records) longer.0 in
    let whole = ap (λ (s : List ℕ). length (commands_of s)) longer.1 ∙ ap (λ (l : List Command). length l) first.1 ∙ length-append (commands_of (stream conn session records)) first.0 in
    omega (arith, whole)

pub sent_rises : (records : List Record) (conn session one other : ℕ) → one ≤ other → sent_in records conn session one ≤ sent_in records conn session other
sent_rises records conn session one other order =
    later (sent_in records conn session) (count_grows (count_of conn session) (count_rises conn session) records) one other order

pub marks_later : (records : List Record) (conn session one other : ℕ) → one ≤ other → marks_at records conn session one ≤ marks_at records conn session other
marks_later records conn session one other order =
    later (marks_at records conn session)
    (count_grows (λ (rs : List Record). marks_in rs conn session) (λ rs r. marks_rise rs r conn session) records) one other order

-- ---- answered commands

no_trues : (n : ℕ) (texts : List (List ℕ)) → ((k : ℕ) → get_or texts k [] ≡ []) → trues (take n (map has_bytes texts)) ≡ 0
no_trues zero [] none = refl
no_trues zero (text ∷ texts) none = refl
no_trues (suc n) [] none = refl
no_trues (suc n) ([] ∷ texts) none = no_trues n texts (λ k. none (suc k))
no_trues (suc n) ((byte ∷ bytes) ∷ texts) none = let first : byte ∷ bytes ≡ [] = none 0 in absurd (cc)

-- if no text from an index on has a byte, no more are answered than before it
pub no_more_trues : (n i : ℕ) (texts : List (List ℕ)) → ((k : ℕ) → i ≤ k → get_or texts k [] ≡ []) → trues (take n (map has_bytes texts)) ≤ trues (take i (map has_bytes texts))
no_more_trues n zero texts none = let is = no_trues n texts (λ k. none k (omega arith)) in omega (arith, is)
no_more_trues zero (suc i) [] none = omega arith
no_more_trues zero (suc i) (text ∷ texts) none = omega arith
no_more_trues (suc n) (suc i) [] none = omega arith
no_more_trues (suc n) (suc i) ([] ∷ texts) none = no_more_trues n i texts (λ k from. none (suc k) (omega arith))
no_more_trues (suc n) (suc i) ((byte ∷ bytes) ∷ texts) none = let rest = no_more_trues n i texts (λ k from. none (suc k) (omega arith)) in omega (arith, rest)
