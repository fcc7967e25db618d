-- A text that has a fault is bad with it, as a capture.
use Rattle.std.proofs.Common.{◌≡◌, inl, inr, ℕ, ◌+◌, ◌<◌, ◌≤◌, ◌^◌, false, List, [], ◌∷◌, ◌++◌, length, refl, sym}
use Rattle.std.proofs.Common.{◌∙◌, ap, subst, arith, append_assoc, length-append}
use Rattle.std.specs.Prelude.{◌==◌, ◌&&◌}
use Rattle.std.specs.Int.{to_be_bytes, w32}
use Rattle.std.proofs.lemmas.Bool.{lt-ltb, le-ltb}
use Rattle.std.proofs.lemmas.Bool.Decides.{nat_tests}
use Rattle.format_laws.specs.BadMagic.{IsBadMagic}
use Rattle.zy_read.specs.Fields.Judged.{Wrong}
use Rattle.zy_read.specs.Runs.{HasRoom}
use Rattle.format_laws.proofs.MagicLemmas.{begins_before, magic_misjudged}
use Rattle.zy_read.proofs.MagicFieldLemmas.{magic_over}
use Rattle.zy_read.proofs.OverLemmas.{over_none, over_then}
use Rattle.format_laws.proofs.VerdictLemmas.{over_misjudged, fault_bad}
use Rattle.zy_capture.specs.declared.record.Record.{Record}
use Rattle.zy_capture.specs.declared.capture_fault.CaptureFault.{CaptureFault}
use Rattle.zy_capture.specs.declared.capture_fault.CaptureFault.TheVariants.{BadMagic, ConnCount, BadTag, ConnRange}
use Rattle.zy_capture.specs.declared.capture_fault.CaptureFault.TheVariants.{SegmentLength, Truncated, Trailing}
use Rattle.zy_capture.specs.declared.capture_fault.CaptureFault.TheVariants.{TooLong}
use Rattle.zy_capture.specs.declared.due.Due.TheVariants.{Tag, Connection, Length, Closed, Nothing}
use Rattle.zy_capture.specs.declared.capture_state.CaptureState.{CaptureState}
use Rattle.zy_capture.specs.Capture.{letters, capture_magic, spelling, IsCapture, capture_limit, connection_limit}
use Rattle.zy_capture.specs.Capture.{segment_limit, front_text}
use Rattle.format_laws.specs.CaptureFaults.{IsCountOver, IsBadTag, IsConnectionOver, IsLengthOver, IsTrailing}
use Rattle.format_laws.specs.CaptureFaults.{IsWrongCapture}
use Rattle.zy_capture.specs.Steps.{state, width, judge_count, judge_tag, judge_connection, judge_length, judge_closed}
use Rattle.zy_capture.specs.Steps.{judged, fields}
use Rattle.zy_capture.specs.Verdict.Verdict.{Bad}
use Rattle.zy_capture.specs.Verdict.{good, verdict}
use Rattle.zy_capture.proofs.PartLemmas.{Over, number_is, conn_over, part_state, after_state, reads_magic, then_over}
use Rattle.zy_capture.proofs.WholeLemmas.{lawful, end_over}

-- ---- a field that is wrong

-- a text that begins with the records of a capture and further fields, where the next one is wrong
after_bad : (text : List ℕ) (version count : ℕ) (items : List Record) (tail : List ℕ) (s : CaptureState) (field rest : List ℕ) (at : ℕ) (fault : CaptureFault) → IsCapture version count items
    → Over (state Tag version count) (0 + length (front_text version count items)) tail s [] → text ≡ front_text version count items ++ (tail ++ (field ++ rest)) → at ≡ length (front_text version count items) + length tail → at ≤ capture_limit
    → length field ≡ width s.due → HasRoom fields s (at + length field) → judged s.due s at field ≡ Wrong fault → verdict text ≡ Bad fault
after_bad text version count items tail s field rest at fault valid over whole place short size room is =
    let front : List ℕ = front_text version count items in
    let there : at ≡ length (front ++ tail) = place ∙ sym (length-append front tail) in
    fault_bad fields lawful good Bad text s fault (inl (over_misjudged fields text s fault (front ++ tail) field rest items (then_over version count items tail s valid over) (subst (λ (n : ℕ). n ≤ capture_limit) there short)
    (whole ∙ sym (append_assoc front tail (field ++ rest))) size (subst (λ (n : ℕ). HasRoom fields s (n + length field)) there room) (ap (λ (n : ℕ). judged s.due s n field) (sym there) ∙ is)))

-- ---- each fault

magic_bad : (text : List ℕ) (at : ℕ) → IsBadMagic letters text at → verdict text ≡ Bad (BadMagic at)
magic_bad text at has =
    fault_bad fields lawful good Bad text (part_state (begins_before letters has.front at reads_magic.six has.place has.within has.begins).part) (BadMagic at) (inl (magic_misjudged fields letters part_state after_state BadMagic reads_magic text at has))

count_bad : (text : List ℕ) (number : ℕ) → IsCountOver text number → verdict text ≡ Bad (ConnCount number)
count_bad text number has =
    let s : CaptureState = after_state has.version in
    fault_bad fields lawful good Bad text s (ConnCount number) (inl (over_misjudged fields text s (ConnCount number) (capture_magic has.version) (to_be_bytes w32 number) has.rest [] (magic_over fields letters part_state after_state BadMagic reads_magic has.version has.known)
    (omega arith) has.whole refl (inr (omega arith)) (ap (λ (n : ℕ). judge_count s n) (number_is number has.fits) ∙ rw (lt-ltb connection_limit number has.over) refl)))

tag_judged : (s : CaptureState) (at b : ℕ) → (b ≡ 83 → ⊥) → (b ≡ 69 → ⊥) → (s.version ≡ 2 → b ≡ 67 → ⊥) → judge_tag s at b ≡ Wrong (BadTag at b)
tag_judged s at b segment_not end_not close_not =
    let one : (b == 83) ≡ false = grind (arith, nat_tests) in
    let two : (b == 69) ≡ false = grind (arith, nat_tests) in
    let three : (b == 67 && s.version == 2) ≡ false = grind (arith, nat_tests) in
    rw (one, two, three) refl

tag_bad : (text : List ℕ) (at b : ℕ) → IsBadTag text at b → verdict text ≡ Bad (BadTag at b)
tag_bad text at b has =
    let s : CaptureState = state Tag has.version has.count in
    after_bad text has.version has.count has.items [] s (b ∷ []) has.rest at (BadTag at b) has.front.valid (over_none fields s (0 + length (front_text has.version has.count has.items))) has.front.whole (omega (arith, has.front.place)) (omega (arith, has.within)) refl (inr (omega (arith, has.within)))
    (tag_judged s at b has.no_segment has.no_end has.no_close)

range_judged : (s : CaptureState) (at n : ℕ) → s.count ≤ n → n < 2 ^ 32 → judged Connection s at (to_be_bytes w32 n) ≡ Wrong (ConnRange at n)
range_judged s at n over fits = ap (λ (k : ℕ). judge_connection s at k) (number_is n fits) ∙ rw (le-ltb n s.count over) refl

closed_judged : (s : CaptureState) (at n : ℕ) → s.count ≤ n → n < 2 ^ 32 → judged Closed s at (to_be_bytes w32 n) ≡ Wrong (ConnRange at n)
closed_judged s at n over fits = ap (λ (k : ℕ). judge_closed s at k) (number_is n fits) ∙ rw (le-ltb n s.count over) refl

range_bad : (text : List ℕ) (at n : ℕ) → IsConnectionOver text at n → verdict text ≡ Bad (ConnRange at n)
range_bad text at n has =
    let version : ℕ = has.version in
    let count : ℕ = has.count in
    let front : List ℕ = front_text version count has.items in
    let place : at ≡ length front + 1 = omega (arith, has.place, has.front.place) in
    elim has.known [
      | inl is ↦ after_bad text version count has.items (has.tag ∷ []) (state Connection version count) (to_be_bytes w32 n) has.rest at (ConnRange at n) has.front.valid
          (over_then fields (state Tag version count) (state Connection version count) (0 + length front) (has.tag ∷ []) refl (rw is refl))
          has.front.whole place (omega (arith, has.within)) refl (inr (omega (arith, has.within))) (range_judged (state Connection version count) at n has.over has.fits)
      | inr is ↦ after_bad text version count has.items (has.tag ∷ []) (state Closed version count) (to_be_bytes w32 n) has.rest at (ConnRange at n) has.front.valid
          (over_then fields (state Tag version count) (state Closed version count) (0 + length front) (has.tag ∷ []) refl (rw (is.0, is.1) refl))
          has.front.whole place (omega (arith, has.within)) refl (inr (omega (arith, has.within))) (closed_judged (state Closed version count) at n has.over has.fits)
    ]

length_bad : (text : List ℕ) (at n : ℕ) → IsLengthOver text at n → verdict text ≡ Bad (SegmentLength at n)
length_bad text at n has =
    let conn : ℕ = has.conn in
    let s : CaptureState = state (Length conn) has.version has.count in
    after_bad text has.version has.count has.items (83 ∷ to_be_bytes w32 conn) s (to_be_bytes w32 n) has.rest at (SegmentLength at n) has.front.valid
    (conn_over has.version has.count (0 + length (front_text has.version has.count has.items)) conn has.below has.front.valid.few)
    has.front.whole (omega (arith, has.place, has.front.place)) (omega (arith, has.within)) refl (inr (omega (arith, has.within)))
    (ap (λ (k : ℕ). judge_length s conn at k) (number_is n has.fits) ∙ rw (lt-ltb segment_limit n has.over) refl)

trailing_bad : (text : List ℕ) (at : ℕ) → IsTrailing text at → verdict text ≡ Bad (Trailing at)
trailing_bad text at has =
    let s : CaptureState = state Nothing has.version has.count in
    let place : length (spelling has.version has.count has.items) ≡ at = sym has.place in
    fault_bad fields lawful good Bad text s (Trailing at) (inl (over_misjudged fields text s (Trailing at) (spelling has.version has.count has.items) (has.byte ∷ []) has.rest has.items (end_over has.version has.count has.items has.valid)
    (omega (arith, place, has.within)) has.whole refl (inl refl) (ap (λ (n : ℕ). Wrong (Trailing n)) place)))

-- a text with a wrong byte or number is bad with that fault
pub wrong_bad : (text : List ℕ) (fault : CaptureFault) → IsWrongCapture text fault → verdict text ≡ Bad fault
wrong_bad text (BadMagic at) has = magic_bad text at has
wrong_bad text (ConnCount number) has = count_bad text number has
wrong_bad text (BadTag at b) has = tag_bad text at b has
wrong_bad text (ConnRange at number) has = range_bad text at number has
wrong_bad text (SegmentLength at number) has = length_bad text at number has
wrong_bad text (Trailing at) has = trailing_bad text at has
wrong_bad text (Truncated at) has = absurd has
wrong_bad text TooLong has = absurd has
