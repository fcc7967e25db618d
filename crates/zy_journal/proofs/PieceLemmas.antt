-- The pieces of an entry's text are the text.
use Rattle.std.proofs.Common.{◌≡◌, ℕ, List, [], ◌∷◌, ◌++◌, refl, sym, ◌∙◌, ap, append_assoc}
use Rattle.std.specs.Prelude.{Option, None, Some}
use Rattle.std.specs.Int.{to_be_bytes, w32, w64}
use Rattle.std.proofs.lemmas.List.{append-nil}
use Rattle.mc_calls.specs.declared.call.Call.{Call}
use Rattle.mc_calls.specs.declared.call_reply.CallReply.{CallReply}
use Rattle.mc_calls.specs.declared.entry.Entry.{Entry}
use Rattle.mc_calls.specs.Call.{key_of}
use Rattle.mc_calls.specs.Code.{call_code, call_flags, call_number, call_value, reply_code, reply_flags, reply_number, reply_value, reply_counts}
use Rattle.zy_journal.specs.Journal.{entry_head, entry_text, call_text, reply_text, field_text, fields_text, key_text, value_text, counts_text}
use Rattle.zy_journal.specs.Pieces.{lent_bytes, value_head, fields_head, call_head, reply_head}

value_is : (value : Option (List ℕ)) → field_text value_text value ≡ value_head value ++ lent_bytes value
value_is None = refl
value_is (Some value) = refl

fields_are : (flags number : Option ℕ) (value : Option (List ℕ)) → fields_text flags number value ≡ fields_head flags number value ++ lent_bytes value
fields_are flags number value =
    let f : List ℕ = field_text (to_be_bytes w32) flags in
    let n : List ℕ = field_text (to_be_bytes w64) number in
    ap (λ (l : List ℕ). f ++ (n ++ l)) (value_is value)
    ∙ ap (λ (l : List ℕ). f ++ l) (sym (append_assoc n (value_head value) (lent_bytes value)))
    ∙ sym (append_assoc f (n ++ value_head value) (lent_bytes value))

call_is : (call : Call) → call_text call ≡ call_head call ++ lent_bytes (call_value call)
unfolding call_text
call_is call =
    let key : List ℕ = field_text key_text (key_of call) in
    let head : List ℕ = fields_head (call_flags call) (call_number call) (call_value call) in
    ap (λ (l : List ℕ). call_code call ∷ (key ++ l)) (fields_are (call_flags call) (call_number call) (call_value call))
    ∙ ap (λ (l : List ℕ). call_code call ∷ l) (sym (append_assoc key head (lent_bytes (call_value call))))

reply_is : (reply : CallReply) → reply_text reply ≡ reply_head reply ++ lent_bytes (reply_value reply)
unfolding reply_text
reply_is reply =
    let counts : List ℕ = field_text counts_text (reply_counts reply) in
    let head : List ℕ = fields_head (reply_flags reply) (reply_number reply) (reply_value reply) in
    ap (λ (l : List ℕ). reply_code reply ∷ (counts ++ l)) (fields_are (reply_flags reply) (reply_number reply) (reply_value reply))
    ∙ ap (λ (l : List ℕ). reply_code reply ∷ l) (sym (append_assoc counts head (lent_bytes (reply_value reply))))

-- the pieces of an entry, one after the other
pub pieces_are : (e : Entry) (text value reply last : List ℕ) → text ≡ entry_head e ++ call_head e.call → value ≡ lent_bytes (call_value e.call)
    → reply ≡ reply_head e.reply → last ≡ lent_bytes (reply_value e.reply) → text ++ (value ++ (reply ++ (last ++ []))) ≡ entry_text e
unfolding entry_text
pieces_are e text value reply last one two three four =
    let h : List ℕ = entry_head e in
    let c : List ℕ = call_head e.call in
    let v : List ℕ = lent_bytes (call_value e.call) in
    let r : List ℕ = reply_head e.reply in
    let b : List ℕ = lent_bytes (reply_value e.reply) in
    (rw (one, two, three, four, append-nil b) refl)
    ∙ append_assoc h c (v ++ (r ++ b))
    ∙ ap (λ (l : List ℕ). h ++ l) (sym (append_assoc c v (r ++ b)))
    ∙ ap (λ (l : List ℕ). h ++ (l ++ (r ++ b))) (sym (call_is e.call))
    ∙ ap (λ (l : List ℕ). h ++ (call_text e.call ++ l)) (sym (reply_is e.reply))

-- of a call without a value all but the last bytes are one piece
pub short_are : (e : Entry) (text last : List ℕ) → call_value e.call ≡ None → text ≡ (entry_head e ++ call_head e.call) ++ reply_head e.reply
    → last ≡ lent_bytes (reply_value e.reply) → text ++ (last ++ []) ≡ entry_text e
short_are e text last none one two =
    let h : List ℕ = entry_head e ++ call_head e.call in
    let r : List ℕ = reply_head e.reply in
    ap (λ (l : List ℕ). l ++ (last ++ [])) one
    ∙ append_assoc h r (last ++ [])
    ∙ pieces_are e h [] r last refl (sym (ap lent_bytes none)) refl two
