-- Where the calls and the replies of a journal lead that are read whole.
use Rattle.std.proofs.Common.{◌≡◌, ◌⊎◌, ℕ, ◌<◌, ◌≤◌, ◌^◌, Bool, true, false, List, [], ◌∷◌, ◌++◌, length, refl, sym, ◌∙◌, ap, subst, arith, append_assoc}
use Rattle.std.specs.Prelude.{◌==◌, ◌&&◌, ◌||◌, nat_lt, nat_le, if◌then◌else◌, Option, IfSome}
use Rattle.std.specs.Int.{to_be_bytes, w32, w64}
use Rattle.std.proofs.lemmas.List.{append-nil}
use Rattle.std.proofs.lemmas.Bool.Decides.{nat_tests}
use Rattle.mc_calls.specs.declared.call.Call.{Call}
use Rattle.mc_calls.specs.declared.call_kind.CallKind.{CallKind}
use Rattle.mc_calls.specs.declared.call_reply.CallReply.{CallReply}
use Rattle.mc_calls.specs.declared.call_reply.CallReply.TheVariants.{Hit}
use Rattle.mc_calls.specs.declared.call_reply.CallReply.TheVariants as Replies
use Rattle.mc_calls.specs.declared.tallied.Tallied.{Tallied}
use Rattle.mc_calls.specs.Shard.{value_limit}
use Rattle.mc_calls.specs.Code.{code_of, fields_of, call_of, last_call_code, hit_code, number_code, tally_code, last_reply_code, tally, plain_reply}
use Rattle.mc_calls.specs.Bounds.{IsKey, IsValue, IsCall, IsReply, FitsCall, FitsReply}
use Rattle.mc_calls.proofs.CodeLemmas.{there, either_of, kind_back, code_within, call_has, key_within, value_within, of_forms}
use Rattle.zy_journal.specs.Journal.{key_text, value_text, field_text, call_text, reply_text}
use Rattle.zy_journal_reader.specs.declared.draft.Draft.{Draft}
use Rattle.zy_journal_reader.specs.declared.due.Due.{Due}
use Rattle.zy_journal_reader.specs.declared.due.Due.TheVariants.{Byte, Number, Long, Bytes}
use Rattle.zy_journal_reader.specs.declared.due.ByteField.TheVariants.{Tag, CallCode, KeyLength, ReplyCode}
use Rattle.zy_journal_reader.specs.declared.due.NumberField.TheVariants.{Flags, ValueLength, FoundFlags, FoundLength}
use Rattle.zy_journal_reader.specs.declared.due.LongField.TheVariants.{CallNumber, FoundUnique, ReplyNumber, Gets, Sets, Hits, Misses, Items}
use Rattle.zy_journal_reader.specs.declared.due.BytesField.TheVariants.{Key, Value, FoundValue}
use Rattle.zy_journal_reader.specs.Fields.{fresh, after_call_code, at_flags, at_number, at_value, entry_read}
use Rattle.zy_journal_reader.specs.Steps.{ReadState}
use Rattle.zy_journal_reader.proofs.CallLemmas.{plain_text}
use Rattle.zy_journal_reader.proofs.PlaceLemmas.{Goes, both, to, stays, one_byte, four_bytes, eight_bytes, all_bytes}

-- ---- tests

pub zero_no : (n : ℕ) → 0 < n → (n == 0) ≡ false
zero_no n some = grind (arith, nat_tests)

pub between : (n low high : ℕ) → low ≤ n → n ≤ high → (nat_le low n && nat_le n high) ≡ true
between n low high above below = grind (arith, nat_tests)

pub below_is : (n limit : ℕ) → n < limit → nat_lt n limit ≡ true
below_is n limit below = grind (arith, nat_tests)

pub most_is : (n limit : ℕ) → n ≤ limit → nat_le n limit ≡ true
most_is n limit most = grind (arith, nat_tests)

pub stamp_is : (n past : ℕ) → 0 < n → n < 2 ^ 60 → past ≤ n → (nat_le 1 n && nat_lt n (2 ^ 60) && nat_le past n) ≡ true
stamp_is n past some few after = grind (arith, nat_tests)

pub shard_is : (n past stamp past_stamp : ℕ) → n < 256 → (past_stamp < stamp) ⊎ ((past_stamp ≡ stamp) × (past < n)) → (nat_lt n 256 && (nat_lt past_stamp stamp || nat_lt past n)) ≡ true
shard_is n past stamp past_stamp few after = grind (arith, nat_tests)

pub conn_is : (n past : ℕ) → past ≤ n → n < 4096 → (nat_le past n && nat_lt n 4096) ≡ true
conn_is n past after few = grind (arith, nat_tests)

-- ---- keys and values

-- a key
pub key_goes : (p : ReadState) (d : Draft) (key : List ℕ) → IsKey key → Goes p d (Byte KeyLength) (key_text key) p (record d { key = key; size = 0 }) (at_flags (fields_of d.kind))
key_goes p d key is =
    both (length key ∷ []) key
    (one_byte p p d (record d { size = length key }) KeyLength (Bytes Key) (length key) (λ at. between (length key) 1 250 is.0 is.1) (λ at. refl))
    (all_bytes p p (record d { size = length key }) (record d { key = key; size = 0 }) Key (at_flags (fields_of d.kind)) key refl is.0 refl)

-- no further byte
pub nothing_more : {p q : ReadState} {d e : Draft} {due next : Due} (s : List ℕ) → Goes p d due s q e next → Goes p d due (s ++ []) q e next
nothing_more {p} {q} {d} {e} {due} {next} s goes = subst (λ (l : List ℕ). Goes p d due l q e next) (sym (append-nil s)) goes

-- a value that a call stores
pub value_goes : (p : ReadState) (d : Draft) (value : List ℕ) → d.size ≡ 0 → IsValue value → Goes p d (Number ValueLength) (value_text value) p (record d { value = value; size = 0 }) (Byte ReplyCode)
value_goes p d [] none is =
    nothing_more (to_be_bytes w32 0)
    (four_bytes p p d (record d { value = []; size = 0 }) ValueLength (Byte ReplyCode) 0 (omega arith) refl
    (ap (λ (n : ℕ). to p (record d { value = []; size = n }) (Byte ReplyCode)) none))
value_goes p d (byte ∷ rest) none is =
    let value : List ℕ = byte ∷ rest in
    let n : ℕ = length value in
    both (to_be_bytes w32 n) value
    (four_bytes p p d (record d { size = n }) ValueLength (Bytes Value) n (omega (arith, is)) (most_is n value_limit is)
    (rw (zero_no n (omega arith)) refl))
    (all_bytes p p (record d { size = n }) (record d { value = value; size = 0 }) Value (Byte ReplyCode) value refl (omega arith) refl)

-- ---- calls

-- what is known after a call of a kind
abbrev pub known : CallKind → List ℕ → ℕ → ℕ → List ℕ → Draft → Draft
known kind key flags number value d = record d {
  kind = kind;
  key = either_of (fields_of kind).key key d.key;
  flags = either_of (fields_of kind).flags flags d.flags;
  number = either_of (fields_of kind).number number d.number;
  value = either_of (fields_of kind).value value d.value;
}

-- before any bytes are due
abbrev pub plain : Draft → Draft
plain d = record d { size = 0 }

-- each field of a call, where it is there
pub value_there : (b : Bool) (p : ReadState) (d : Draft) (value : List ℕ) → IfSome (there b value) IsValue
    → Goes p (plain d) (if b then Number ValueLength else Byte ReplyCode) (field_text value_text (there b value)) p (record (plain d) { value = either_of b value d.value }) (Byte ReplyCode)
value_there true p d value is = value_goes p (plain d) value refl is
value_there false p d value is = stays p (plain d) (Byte ReplyCode)

pub number_there : (b : Bool) (p : ReadState) (d : Draft) (n : ℕ) → IfSome (there b n) (λ m. m < 2 ^ 64)
    → Goes p d (if b then Long CallNumber else at_value (fields_of d.kind)) (field_text (to_be_bytes w64) (there b n)) p (record d { number = either_of b n d.number }) (at_value (fields_of d.kind))
number_there true p d n small = eight_bytes p p d (record d { number = n }) CallNumber (at_value (fields_of d.kind)) n small refl refl
number_there false p d n small = stays p d (at_value (fields_of d.kind))

pub flags_there : (b : Bool) (p : ReadState) (d : Draft) (n : ℕ) → IfSome (there b n) (λ m. m < 2 ^ 32)
    → Goes p d (if b then Number Flags else at_number (fields_of d.kind)) (field_text (to_be_bytes w32) (there b n)) p (record d { flags = either_of b n d.flags }) (at_number (fields_of d.kind))
flags_there true p d n small = four_bytes p p d (record d { flags = n }) Flags (at_number (fields_of d.kind)) n small refl refl
flags_there false p d n small = stays p d (at_number (fields_of d.kind))

pub key_there : (b : Bool) (p : ReadState) (d : Draft) (key : List ℕ) → IfSome (there b key) IsKey
    → Goes p (plain d) (if b then Byte KeyLength else at_flags (fields_of d.kind)) (field_text key_text (there b key)) p (record (plain d) { key = either_of b key d.key }) (at_flags (fields_of d.kind))
key_there true p d key is = key_goes p (plain d) key is
key_there false p d key is = stays p (plain d) (at_flags (fields_of d.kind))

-- the code of a call
pub code_goes : (p : ReadState) (d : Draft) (kind : CallKind) → Goes p d (Byte CallCode) (code_of kind ∷ []) p (record d { kind = kind }) (after_call_code (fields_of kind))
code_goes p d kind =
    one_byte p p d (record d { kind = kind }) CallCode (after_call_code (fields_of kind)) (code_of kind)
    (λ at. between (code_of kind) 1 last_call_code (code_within kind).0 (code_within kind).1)
    (λ at. ap (λ (k : CallKind). to p (record d { kind = k }) (after_call_code (fields_of k))) (kind_back kind))

-- what is known after the fields of a call before its value
abbrev pub known_front : CallKind → List ℕ → ℕ → ℕ → Draft → Draft
known_front kind key flags number d = record d {
  kind = kind;
  key = either_of (fields_of kind).key key d.key;
  flags = either_of (fields_of kind).flags flags d.flags;
  number = either_of (fields_of kind).number number d.number;
}

-- these fields
abbrev pub front_of : CallKind → List ℕ → ℕ → ℕ → List ℕ
front_of kind key flags number =
    code_of kind ∷ (field_text key_text (there (fields_of kind).key key) ++ (field_text (to_be_bytes w32) (there (fields_of kind).flags flags) ++ field_text (to_be_bytes w64) (there (fields_of kind).number number)))

pub front_goes : (p : ReadState) (d : Draft) (kind : CallKind) (key : List ℕ) (flags number : ℕ) (value : List ℕ) → IsCall (call_of kind key flags number value) → FitsCall (call_of kind key flags number value)
    → Goes p (plain d) (Byte CallCode) (front_of kind key flags number) p (known_front kind key flags number (plain d)) (at_value (fields_of kind))
front_goes p d kind key flags number value is fits =
    let call : Call = call_of kind key flags number value in
    let has = call_has kind key flags number value in
    let e1 : Draft = record (plain d) { kind = kind } in
    let e2 : Draft = record e1 { key = either_of (fields_of kind).key key d.key } in
    let e3 : Draft = record e2 { flags = either_of (fields_of kind).flags flags d.flags } in
    let k : List ℕ = field_text key_text (there (fields_of kind).key key) in
    let f : List ℕ = field_text (to_be_bytes w32) (there (fields_of kind).flags flags) in
    let n : List ℕ = field_text (to_be_bytes w64) (there (fields_of kind).number number) in
    both (code_of kind ∷ []) (k ++ (f ++ n)) (code_goes p (plain d) kind)
    (both k (f ++ n) (key_there (fields_of kind).key p e1 key (subst (λ (o : Option (List ℕ)). IfSome o IsKey) has.key_is (key_within call is)))
    (both f n (flags_there (fields_of kind).flags p e2 flags (subst (λ (o : Option ℕ). IfSome o (λ m. m < 2 ^ 32)) has.flags_are fits.0))
    (number_there (fields_of kind).number p e3 number (subst (λ (o : Option ℕ). IfSome o (λ m. m < 2 ^ 64)) has.number_is fits.1))))

-- a whole call
pub call_goes : (p : ReadState) (d : Draft) (kind : CallKind) (key : List ℕ) (flags number : ℕ) (value : List ℕ) → IsCall (call_of kind key flags number value) → FitsCall (call_of kind key flags number value)
    → Goes p (plain d) (Byte CallCode) (call_text (call_of kind key flags number value)) p (known kind key flags number value (plain d)) (Byte ReplyCode)
unfolding call_text
call_goes p d kind key flags number value is fits =
    let call : Call = call_of kind key flags number value in
    let has = call_has kind key flags number value in
    let k : List ℕ = field_text key_text (there (fields_of kind).key key) in
    let f : List ℕ = field_text (to_be_bytes w32) (there (fields_of kind).flags flags) in
    let n : List ℕ = field_text (to_be_bytes w64) (there (fields_of kind).number number) in
    let v : List ℕ = field_text value_text (there (fields_of kind).value value) in
    let spelled : call_text call ≡ code_of kind ∷ (k ++ (f ++ (n ++ v))) = rw (has.kind_is, has.key_is, has.flags_are, has.number_is, has.value_is) refl in
    let parted : front_of kind key flags number ++ v ≡ call_text call = ap (λ (l : List ℕ). code_of kind ∷ l) (append_assoc k (f ++ n) v ∙ ap (λ (l : List ℕ). k ++ l) (append_assoc f n v)) ∙ sym spelled in
    subst (λ (l : List ℕ). Goes p (plain d) (Byte CallCode) l p (known kind key flags number value (plain d)) (Byte ReplyCode)) parted
    (both (front_of kind key flags number) v (front_goes p d kind key flags number value is fits)
    (value_there (fields_of kind).value p (known_front kind key flags number (plain d)) value (subst (λ (o : Option (List ℕ)). IfSome o IsValue) has.value_is (value_within call is))))

-- ---- replies

-- the lists with the entry that was read
abbrev pub after : ReadState → Draft → CallReply → ReadState
after p d reply = record p { entries = p.entries ++ entry_read d reply ∷ []; past = record p.past { stamp = d.stamp; shard = d.shard } }

-- a reply without fields
pub plain_goes : (p : ReadState) (d : Draft) (code : ℕ) → 1 ≤ code → code ≤ last_reply_code → (code == hit_code) ≡ false → (code == number_code) ≡ false → (code == tally_code) ≡ false
    → Goes p d (Byte ReplyCode) (reply_text (plain_reply code)) (after p d (plain_reply code)) fresh (Byte Tag)
plain_goes p d code some most no_hit no_number no_tally =
    subst (λ (l : List ℕ). Goes p d (Byte ReplyCode) l (after p d (plain_reply code)) fresh (Byte Tag)) (sym (plain_text code some most no_hit no_number no_tally))
    (one_byte p (after p d (plain_reply code)) d fresh ReplyCode (Byte Tag) code (λ at. between code 1 last_reply_code some most) (λ at. rw (no_hit, no_number, no_tally) refl))

-- the value that a get found
pub found_goes : (p : ReadState) (d : Draft) (value : List ℕ) → IsValue value → Goes p d (Number FoundLength) (value_text value) (after p d (Hit d.found_flags d.found_unique value)) fresh (Byte Tag)
found_goes p d [] is =
    nothing_more (to_be_bytes w32 0) (four_bytes p (after p d (Hit d.found_flags d.found_unique [])) d fresh FoundLength (Byte Tag) 0 (omega arith) refl refl)
found_goes p d (byte ∷ rest) is =
    let value : List ℕ = byte ∷ rest in
    let n : ℕ = length value in
    both (to_be_bytes w32 n) value
    (four_bytes p p d (record d { size = n }) FoundLength (Bytes FoundValue) n (omega (arith, is)) (most_is n value_limit is) (rw (zero_no n (omega arith)) refl))
    (all_bytes p (after p d (Hit d.found_flags d.found_unique value)) (record d { size = n }) fresh FoundValue (Byte Tag) value refl (omega arith) refl)

-- a hit
pub hit_goes : (p : ReadState) (d : Draft) (flags unique : ℕ) (value : List ℕ) → IsReply (Hit flags unique value) → FitsReply (Hit flags unique value)
    → Goes p d (Byte ReplyCode) (reply_text (Hit flags unique value)) (after p d (Hit flags unique value)) fresh (Byte Tag)
unfolding reply_text
hit_goes p d flags unique value is fits =
    let e : Draft = record d { found_flags = flags } in
    let f : Draft = record e { found_unique = unique } in
    both (hit_code ∷ []) (to_be_bytes w32 flags ++ (to_be_bytes w64 unique ++ value_text value)) (one_byte p p d d ReplyCode (Number FoundFlags) hit_code (λ at. refl) (λ at. refl))
    (both (to_be_bytes w32 flags) (to_be_bytes w64 unique ++ value_text value) (four_bytes p p d e FoundFlags (Long FoundUnique) flags fits.0.0 refl refl)
    (both (to_be_bytes w64 unique) (value_text value) (eight_bytes p p e f FoundUnique (Number FoundLength) unique fits.0.1 refl refl)
    (found_goes p f value is)))

-- a number
pub number_goes : (p : ReadState) (d : Draft) (number : ℕ) → FitsReply (Replies.Number number) → Goes p d (Byte ReplyCode) (reply_text (Replies.Number number)) (after p d (Replies.Number number)) fresh (Byte Tag)
unfolding reply_text
number_goes p d number fits =
    nothing_more (number_code ∷ to_be_bytes w64 number)
    (both (number_code ∷ []) (to_be_bytes w64 number) (one_byte p p d d ReplyCode (Long ReplyNumber) number_code (λ at. refl) (λ at. refl))
    (eight_bytes p (after p d (Replies.Number number)) d fresh ReplyNumber (Byte Tag) number fits.0.1 refl refl))

-- a tally
pub tally_goes : (p : ReadState) (d : Draft) (counts : Tallied) → FitsReply (tally counts) → Goes p d (Byte ReplyCode) (reply_text (tally counts)) (after p d (tally counts)) fresh (Byte Tag)
unfolding reply_text
tally_goes p d counts fits =
    let g : List ℕ = to_be_bytes w64 counts.gets in
    let s : List ℕ = to_be_bytes w64 counts.sets in
    let h : List ℕ = to_be_bytes w64 counts.hits in
    let m : List ℕ = to_be_bytes w64 counts.misses in
    let i : List ℕ = to_be_bytes w64 counts.items in
    let d1 : Draft = record d { counts = record d.counts { gets = counts.gets } } in
    let d2 : Draft = record d1 { counts = record d1.counts { sets = counts.sets } } in
    let d3 : Draft = record d2 { counts = record d2.counts { hits = counts.hits } } in
    let d4 : Draft = record d3 { counts = record d3.counts { misses = counts.misses } } in
    nothing_more (tally_code ∷ (g ++ (s ++ (h ++ (m ++ i)))))
    (both (tally_code ∷ []) (g ++ (s ++ (h ++ (m ++ i)))) (one_byte p p d d ReplyCode (Long Gets) tally_code (λ at. refl) (λ at. refl))
    (both g (s ++ (h ++ (m ++ i))) (eight_bytes p p d d1 Gets (Long Sets) counts.gets fits.1.0 refl refl)
    (both s (h ++ (m ++ i)) (eight_bytes p p d1 d2 Sets (Long Hits) counts.sets fits.1.1 refl refl)
    (both h (m ++ i) (eight_bytes p p d2 d3 Hits (Long Misses) counts.hits fits.1.2 refl refl)
    (both m i (eight_bytes p p d3 d4 Misses (Long Items) counts.misses fits.1.3 refl refl)
    (eight_bytes p (after p d (tally counts)) d4 fresh Items (Byte Tag) counts.items fits.1.4 refl refl))))))

pub reply_goes : (p : ReadState) (d : Draft) (reply : CallReply) → IsReply reply → FitsReply reply → Goes p d (Byte ReplyCode) (reply_text reply) (after p d reply) fresh (Byte Tag)
reply_goes p d =
    of_forms (λ (reply : CallReply). IsReply reply → FitsReply reply → Goes p d (Byte ReplyCode) (reply_text reply) (after p d reply) fresh (Byte Tag))
    (λ flags unique value is fits. hit_goes p d flags unique value is fits)
    (λ number is fits. number_goes p d number fits)
    (λ counts is fits. tally_goes p d counts fits)
    (λ code some most no_hit no_number no_tally is fits. plain_goes p d code some most no_hit no_number no_tally)
