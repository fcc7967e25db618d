-- A text that has a wrong byte or number of specs/RepliesFaults.antt is bad with it, as a replies file.
use Rattle.std.proofs.Common.{◌≡◌, ◌⊎◌, inl, inr, ℕ, ◌+◌, ◌<◌, ◌≤◌, ◌^◌, true, false, List, [], ◌∷◌, ◌++◌, length}
use Rattle.std.proofs.Common.{refl, sym, ◌∙◌, ap, subst, arith, append_assoc, length-append}
use Rattle.std.specs.Prelude.{◌==◌, ◌&&◌, ◌||◌, nat_lt, if◌then◌else◌}
use Rattle.std.specs.Int.{to_be_bytes, w32}
use Rattle.std.proofs.lemmas.List.{append-nil}
use Rattle.std.proofs.lemmas.Bool.Decides.{nat_tests}
use Rattle.std.proofs.lemmas.Nat.{from_be_bytes-to_be_bytes_4}
use Rattle.zy_base.specs.declared.file_fault.FileFault.{FileFault}
use Rattle.zy_base.specs.declared.file_fault.FileFault.TheVariants.{Form}
use Rattle.format_laws.specs.BadMagic.{IsBadMagic}
use Rattle.zy_read.specs.Fields.Judged.{Wrong}
use Rattle.zy_read.specs.Runs.{HasRoom}
use Rattle.format_laws.proofs.MagicLemmas.{begins_before, magic_misjudged}
use Rattle.zy_read.proofs.OverLemmas.{over_join}
use Rattle.format_laws.proofs.VerdictLemmas.{over_misjudged, fault_bad}
use Rattle.zy_capture.specs.declared.session_bytes.SessionBytes.{SessionBytes}
use Rattle.zy_capture.specs.declared.replies_due.RepliesDue.TheVariants.{Connection, Session}
use Rattle.zy_capture.specs.declared.replies_state.RepliesState.{RepliesState}
use Rattle.zy_capture.specs.Capture.{connection_limit}
use Rattle.zy_capture.specs.Replies.{letters, spelling, IsNextSession, replies_limit, front_text, connections_after}
use Rattle.zy_capture.specs.Replies.{sessions_after}
use Rattle.format_laws.specs.Faults.{IsWrongForm}
use Rattle.format_laws.specs.RepliesFaults.{RepliesGoOn, IsBadTag, IsBadConnection, IsBadSession, IsTrailing}
use Rattle.format_laws.specs.RepliesFaults.{IsWrongReplies}
use Rattle.zy_capture.specs.RepliesSteps.{start, goes, tag, connection, session, replies_fields}
use Rattle.zy_capture.specs.RepliesVerdict.{good, verdict}
use Rattle.zy_capture.specs.RepliesVerdict.Verdict.{Bad}
use Rattle.zy_capture.specs.RepliesLaws.{lawful}
use Rattle.format_laws.proofs.RepliesSpelledLemmas.{Over, tag_over, connection_over, front_over, after_items}
use Rattle.format_laws.proofs.RepliesSpelledLemmas.{end_state, spelling_over}
use Rattle.zy_capture.proofs.RepliesSpelledLemmas.{in_state, part_state, after_state, reads_magic}

-- a wrong field after whole ones
wrong_bad : (text : List ℕ) (s : RepliesState) (x field rest : List ℕ) (given : List SessionBytes) (at : ℕ) → Over start 0 x s given → length x ≤ replies_limit → text ≡ x ++ (field ++ rest) → length field ≡ replies_fields.width s → HasRoom replies_fields s (length x + length field) → replies_fields.judge s (length x) field ≡ Wrong (Form at) → verdict text ≡ Bad (Form at)
wrong_bad text s x field rest given at over short whole size room wrong =
    fault_bad replies_fields lawful good Bad text s (Form at) (inl (over_misjudged replies_fields text s (Form at) x field rest given over short whole size room wrong))

-- ---- tests

no_tag : (s : RepliesState) (at byte : ℕ) → (byte ≡ 82 → ⊥) → (byte ≡ 69 → ⊥) → tag s at byte ≡ Wrong (Form at)
no_tag s at byte record_not end_not =
    let one : (byte == 82) ≡ false = grind (arith, nat_tests) in
    let two : (byte == 69) ≡ false = grind (arith, nat_tests) in
    rw (one, two) refl

not_may : (version connections conn : ℕ) → ((conn < connection_limit) × ((conn ≡ connections) ⊎ ((version ≡ 2) × (conn + 1 ≡ connections))) → ⊥)
    → (nat_lt conn connection_limit && (conn == connections || (version == 2 && conn + 1 == connections))) ≡ false
not_may version connections conn wrong = grind (arith, nat_tests)

may_two : (version connections conn : ℕ) → version ≡ 2 → (conn < connection_limit) × ((conn ≡ connections) ⊎ ((version ≡ 2) × (conn + 1 ≡ connections)))
    → (nat_lt conn connection_limit && (conn == connections || (version == 2 && conn + 1 == connections))) ≡ true
may_two version connections conn two lawful = grind (arith, nat_tests)

not_due : (version connections sessions conn number : ℕ) → version ≡ 2 → (conn ≡ connections) ⊎ ((version ≡ 2) × (conn + 1 ≡ connections)) → (IsNextSession version connections sessions conn number × (number < 2 ^ 31) → ⊥)
    → (number == (if conn == connections then 0 else sessions) && nat_lt number (2 ^ 31)) ≡ false
not_due version connections sessions conn number two follows wrong = grind (arith, nat_tests)

-- ---- each fault

bad_magic_bad : (text : List ℕ) (at : ℕ) → IsBadMagic letters text at → verdict text ≡ Bad (Form at)
bad_magic_bad text at has =
    fault_bad replies_fields lawful good Bad text (part_state (begins_before letters has.front at reads_magic.six has.place has.within has.begins).part) (Form at) (inl (magic_misjudged replies_fields letters part_state after_state Form reads_magic text at has))

bad_tag_bad : (text : List ℕ) (at : ℕ) → IsBadTag text at → verdict text ≡ Bad (Form at)
bad_tag_bad text at has =
    let x : List ℕ = front_text has.version has.items in
    let short : length x ≤ replies_limit = omega (arith, has.front.place, has.within) in
    wrong_bad text (after_items has.version has.items) x (has.byte ∷ []) has.rest has.items at (front_over has.version has.items has.front.valid short) short has.front.whole refl (inr (omega (arith, has.front.place, has.within)))
    (no_tag (after_items has.version has.items) (length x) has.byte has.no_record has.no_end ∙ ap (λ (n : ℕ). Wrong (Form n)) (sym has.front.place))

-- the records and the tag of one more
tagged_over : (version : ℕ) (items : List SessionBytes) (text tail : List ℕ) (at : ℕ) → RepliesGoOn text version items at (82 ∷ tail) → at ≤ replies_limit → Over start 0 (front_text version items ++ 82 ∷ []) (in_state Connection version (connections_after 0 items) (sessions_after 0 items)) items
tagged_over version items text tail at goes_on short =
    let s : RepliesState = in_state Connection version (connections_after 0 items) (sessions_after 0 items) in
    subst (λ (l : List SessionBytes). Over start 0 (front_text version items ++ 82 ∷ []) s l) (append-nil items)
    (over_join replies_fields start (after_items version items) s 0 (front_text version items) (82 ∷ []) items []
    (front_over version items goes_on.valid (omega (arith, goes_on.place, short))) (tag_over version (connections_after 0 items) (sessions_after 0 items) (0 + length (front_text version items))))

connection_bad : (text : List ℕ) (at : ℕ) → IsBadConnection text at → verdict text ≡ Bad (Form at)
connection_bad text at has =
    let front : List ℕ = front_text has.version has.items in
    let x : List ℕ = front ++ 82 ∷ [] in
    let s : RepliesState = in_state Connection has.version (connections_after 0 has.items) (sessions_after 0 has.items) in
    let n : List ℕ = to_be_bytes w32 has.number in
    let size : length x ≡ at = length-append front (82 ∷ []) ∙ ap (λ (k : ℕ). k + 1) (sym has.front.place) ∙ sym has.place in
    let wrong : connection s (length x) has.number ≡ Wrong (Form (length x)) = rw (not_may has.version (connections_after 0 has.items) has.number has.wrong) refl in
    wrong_bad text s x n has.rest has.items at (tagged_over has.version has.items text (n ++ has.rest) has.tag_at has.front (omega (arith, has.place, has.within))) (omega (arith, size, has.within))
    (has.front.whole ∙ sym (append_assoc front (82 ∷ []) (n ++ has.rest))) refl (inr (omega (arith, size, has.within)))
    (ap (λ (k : ℕ). connection s (length x) k) (from_be_bytes-to_be_bytes_4 has.number has.fits) ∙ wrong ∙ ap (λ (k : ℕ). Wrong (Form k)) size)

session_bad : (text : List ℕ) (at : ℕ) → IsBadSession text at → verdict text ≡ Bad (Form at)
session_bad text at has =
    let front : List ℕ = front_text has.version has.items in
    let c : ℕ = connections_after 0 has.items in
    let d : ℕ = sessions_after 0 has.items in
    let conn : List ℕ = to_be_bytes w32 has.conn in
    let n : List ℕ = to_be_bytes w32 has.number in
    let x : List ℕ = (front ++ 82 ∷ []) ++ conn in
    let s : RepliesState = in_state (Session has.conn) has.version c d in
    let t : RepliesState = in_state Connection has.version c d in
    let tagged : length (front ++ 82 ∷ []) ≡ length front + 1 = length-append front (82 ∷ []) in
    let size : length x ≡ at = omega (arith, length-append (front ++ 82 ∷ []) conn, tagged, has.front.place, has.place) in
    let there : connection t (0 + length (front ++ 82 ∷ [])) has.conn ≡ goes t (Session has.conn) = (let may = may_two has.version c has.conn has.second has.lawful in let two = has.second in rw (may, two) refl) in
    let over : Over start 0 x s has.items =
    subst (λ (l : List SessionBytes). Over start 0 x s l) (append-nil has.items)
    (over_join replies_fields start t s 0 (front ++ 82 ∷ []) conn has.items []
    (tagged_over has.version has.items text (conn ++ (n ++ has.rest)) has.tag_at has.front (omega (arith, has.place, has.within)))
    (connection_over has.version c d (0 + length (front ++ 82 ∷ [])) has.conn (Session has.conn) (omega (arith, has.lawful.0)) there)) in
    let wrong : session has.conn s (length x) has.number ≡ Wrong (Form (length x)) = rw (not_due has.version c d has.conn has.number has.second has.lawful.1 has.wrong) refl in
    wrong_bad text s x n has.rest has.items at over (omega (arith, size, has.within))
    (has.front.whole ∙ sym (append_assoc front (82 ∷ []) (conn ++ (n ++ has.rest))) ∙ sym (append_assoc (front ++ 82 ∷ []) conn (n ++ has.rest))) refl (inr (omega (arith, size, has.within)))
    (ap (λ (k : ℕ). session has.conn s (length x) k) (from_be_bytes-to_be_bytes_4 has.number has.fits) ∙ wrong ∙ ap (λ (k : ℕ). Wrong (Form k)) size)

trailing_bad : (text : List ℕ) (at : ℕ) → IsTrailing text at → verdict text ≡ Bad (Form at)
trailing_bad text at has =
    let short : length (spelling has.version has.items) ≤ replies_limit = omega (arith, has.place, has.within) in
    wrong_bad text (end_state has.version has.items) (spelling has.version has.items) (has.byte ∷ []) has.rest has.items at (spelling_over has.version has.items has.valid short) short has.whole refl (inl refl)
    (ap (λ (k : ℕ). Wrong (Form k)) (sym has.place))

-- a text is bad with what is wrong in it
pub has_bad : (text : List ℕ) (fault : FileFault) → IsWrongForm IsWrongReplies text fault → verdict text ≡ Bad fault
has_bad text (Form at) (inl has) = bad_magic_bad text at has
has_bad text (Form at) (inr (inl has)) = bad_tag_bad text at has
has_bad text (Form at) (inr (inr (inl has))) = connection_bad text at has
has_bad text (Form at) (inr (inr (inr (inl has)))) = session_bad text at has
has_bad text (Form at) (inr (inr (inr (inr has)))) = trailing_bad text at has
has_bad text fault has = absurd has
