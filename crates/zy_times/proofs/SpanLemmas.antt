-- From which moments on the commands of a session, of a connection and of all were sent and had ended.
use Rattle.std.specs.List.{slice_get}
use Rattle.std.specs.Prelude.{◌↔◌, is_some, IfSome}
use Rattle.std.proofs.Common.{◌≡◌, ℕ, zero, suc, ◌+◌, ◌<◌, ◌≤◌, Bool, true, List, [], ◌∷◌, ◌++◌, length, get_or, map, take, Option, None, Some, refl, sym, ap, ◌∙◌, subst, arith}
use Rattle.std.proofs.lemmas.List.{length-append, length-map}
use Rattle.std.proofs.lemmas.Option.{slice_get_read, slice_get_within}
use Rattle.zy_run.specs.Commands.{commands_in}
use Rattle.zy_check.proofs.ListLemmas.{there}
use Rattle.zy_times.specs.Recording.{Recording, Numbered, numbered_of, first_in, answered_in, IsEnded}
use Rattle.zy_times.specs.Sessions.{commands_of_session}
use Rattle.zy_times.specs.Times.{trues}
use Rattle.zy_times.specs.InTime.{total_below, AreEndedFlags, EndedOfAll}
use Rattle.zy_times.specs.declared.line.Line.{Line}
use Rattle.zy_times.specs.declared.session.Session.{Session}
use Rattle.zy_times.specs.declared.span.Span.{Span}
use Rattle.zy_times.specs.declared.spans.Spans.{Spans}
use Rattle.zy_times.specs.declared.times.Times.{Times}
use Rattle.zy_times.specs.Line.{SessionHolds, LineHolds}
use Rattle.zy_times.specs.Recorded.{IsKept, flags_in}
use Rattle.zy_times.specs.Spans.{IsFrom, SpanHolds, AreSpansBelow, AreSpans, has_end}
use Rattle.zy_times.proofs.FirstLemmas.{each_next}
use Rattle.zy_times.proofs.NumberLemmas.{numbered, numbered_is}
use Rattle.zy_times.proofs.SessionLemmas.{sent_from, mark_from, mark_never}

-- ---- a session

module _ (r : Recording) (conn session : ℕ) (s : Session) (h : SessionHolds r.records conn session s) (index : ℕ) where
  -- the number of the mark that ends a command
  abbrev number : ℕ
  number = trues (take index (answered_in r conn session))

  ends_at : (end : Option ℕ) → slice_get s.marks.items number ≡ end → IfSome end (λ m. m ≤ length r.records) × ((moment : ℕ) → IsEnded r conn (numbered session index) moment ↔ IsFrom end moment)
  ends_at None is = (tt, λ moment. (mark_never r.records conn session s h number moment is, λ never. absurd never))
  ends_at (Some at) is = ((h.marks.each number at is).0, λ moment. mark_from r.records conn session s h number at moment is)

  span_at : (span : Span) → slice_get s.sent.items index ≡ Some span.sent → slice_get s.marks.items number ≡ span.end → SpanHolds r conn (numbered session index) span
  span_at span sent end =
      let ends = ends_at span.end end in
      record { sent = λ moment. sent_from r.records conn session s h index span.sent moment sent; within = ends.0; ended = ends.1 }

  -- one further command
  pub spans_more : (spans : List Span) (span : Span) → index < length (commands_of_session r.records conn session) → slice_get s.sent.items index ≡ Some span.sent → slice_get s.marks.items number ≡ span.end
      → AreSpansBelow r conn (first_in r conn session + index) spans → AreSpansBelow r conn (first_in r conn session + (index + 1)) (spans ++ span ∷ [])
  spans_more spans span low sent end are = record {
    size = let size = are.size in let long = length-append spans (span ∷ []) in omega (arith, size, long);
    each = each_next (λ n. SpanHolds r conn (numbered_of r conn n)) spans span are.each
        (subst (λ (n : Numbered). SpanHolds r conn n span) (sym (ap (numbered_of r conn) are.size ∙ numbered_is r conn session index low)) (span_at span sent end));
  }

-- no command yet
pub spans_none : (r : Recording) (conn : ℕ) (spans : List Span) → spans ≡ [] → AreSpansBelow r conn (first_in r conn 0) spans
spans_none r conn spans none = subst (AreSpansBelow r conn (first_in r conn 0)) (sym none) (record { size = refl; each = λ index span is. absurd (cc) })

-- ---- all connections

-- an element of a list, after a function
pub get_map : {A B : Type 0} (f : A → B) (xs : List A) (k : ℕ) (x : A) → slice_get xs k ≡ Some x → slice_get (map f xs) k ≡ Some (f x)
get_map f [] k x is = absurd (cc)
get_map f (y ∷ ys) zero x is = let same : y ≡ x = cc in ap (λ z. Some (f z)) same
get_map f (y ∷ ys) (suc k) x is = get_map f ys k x is

-- the same of what is there
abbrev pub map_some : {A B : Type 0} → (A → B) → Option A → Option B
map_some f None = None
map_some f (Some x) = Some (f x)

abbrev pub or_none : {A : Type 0} → Option (List A) → List A
or_none None = []
or_none (Some xs) = xs

-- which commands of a connection have an end
abbrev pub flags_at : Spans → ℕ → List Bool
flags_at spans conn = or_none (map_some (λ line. map has_end line.items) (slice_get spans.lines.items conn))

-- it says which some mark ends
flag_is : (r : Recording) (conn index : ℕ) (span : Span) → SpanHolds r conn (numbered_of r conn index) span → (has_end span ≡ true ↔ IsEnded r conn (numbered_of r conn index) (length r.records))
flag_is r conn index span holds = go span.end holds.within (holds.ended (length r.records))
  where
    go : (end : Option ℕ) → IfSome end (λ m. m ≤ length r.records) → (IsEnded r conn (numbered_of r conn index) (length r.records) ↔ IsFrom end (length r.records)) → (is_some end ≡ true ↔ IsEnded r conn (numbered_of r conn index) (length r.records))
    go None within ended = ((λ is. absurd (cc)), λ is. absurd (ended.0 is))
    go (Some moment) within ended = ((λ is. ended.1 within), λ is. refl)

are_flags : (r : Recording) (conn : ℕ) (spans : List Span) → AreSpansBelow r conn (length (commands_in r.records conn)) spans → AreEndedFlags r conn (map has_end spans)
are_flags r conn spans are = record {
  size = length-map spans has_end ∙ are.size;
  each = λ index flag is.
      let low = slice_get_within (map has_end spans) index flag is in
      let size = length-map spans has_end in
      let at = there spans index (omega (arith, low, size)) in
      let both : Some (has_end at.0) ≡ Some flag = sym (get_map has_end spans index at.0 at.1) ∙ is in
      let same : has_end at.0 ≡ flag = cc in
      subst (λ (b : Bool). (b ≡ true) ↔ IsEnded r conn (numbered_of r conn index) (length r.records)) same (flag_is r conn index at.0 (are.each index at.0 at.1));
}

-- the flags of a connection with these spans
flags_here : (spans : Spans) (conn : ℕ) (line : _) → slice_get spans.lines.items conn ≡ Some line → flags_at spans conn ≡ map has_end line.items
flags_here spans conn line is = ap (λ found. or_none (map_some (λ l. map has_end l.items) found)) is

-- so many have an end
pub ended_of_all : (r : Recording) (count : ℕ) (spans : Spans) (number : ℕ) → AreSpans r count spans → number ≡ total_below (λ conn. trues (flags_at spans conn)) count → EndedOfAll r count number
ended_of_all r count spans number are is = record {
  flags = flags_at spans;
  each = λ conn low.
      let size = are.size in
      let at = there spans.lines.items conn (omega (arith, low, size)) in
      subst (AreEndedFlags r conn) (sym (flags_here spans conn at.0 at.1)) (are_flags r conn at.0.items (are.each conn at.0 at.1));
  adds = is;
}

-- a connection that is gone over has its times, and the flags of its commands
pub line_there : (r : Recording) (count : ℕ) (times : Times) (answered : List (List Bool)) → IsKept r count times answered → (conn : ℕ) (line : Line) (flags : List Bool) → conn < length times.lines.items → line ≡ get_or times.lines.items conn line → slice_get answered conn ≡ Some flags
    → LineHolds r.records conn line × (flags ≡ flags_in r conn)
line_there r count times answered kept conn line flags low is there =
    (kept.times_hold.each conn line (slice_get_read times.lines.items _ conn line refl low is), kept.flags conn flags there)
