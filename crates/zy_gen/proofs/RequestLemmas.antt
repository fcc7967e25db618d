-- Each request of generated traffic asks for something at its own connection's keys.
use Rattle.std.proofs.Common.{◌≡◌, ℕ, zero, suc, ◌+◌, ◌%◌, ◌^◌, ◌<◌, ◌≤◌, Bool, true, false, List, [], ◌∷◌, ◌++◌, length, refl, sym, ap, ◌∙◌, arith, append_assoc, append-nil, length-append}
use Rattle.std.specs.Prelude.{◌&&◌, None, Some, if◌then◌else◌, option_map, codes, decimal}
use Rattle.std.specs.List.{AllByRecursion, list_all}
use Rattle.std.proofs.lemmas.Bool.{le-leb}
use Rattle.std.proofs.lemmas.Fmt.{length-decimal-le}
use Rattle.zy_base.specs.Number.{number_of}
use Rattle.zy_base.proofs.NumberLemmas.{number_of-decimal}
use Rattle.mc_parse.specs.declared.verb.Verb.{Verb}
use Rattle.mc_parse.specs.declared.verb.Verb.TheVariants as Verbs
use Rattle.mc_parse.specs.declared.error_line.ErrorLine.TheVariants as Errors
use Rattle.mc_parse.specs.Arity.{Following, following}
use Rattle.mc_parse.specs.Number.{small_number_of, is_exptime}
use Rattle.mc_parse.proofs.NumberLemmas.{small-found}
use Rattle.mc_parse.specs.Form.{stores, gets, deletes, counts, asks, check, find, form_of, is_key, sizes, store_ask}
use Rattle.zy_gen.specs.declared.request.Request.{Request}
use Rattle.zy_gen.specs.declared.request.Request.TheVariants.{Get, GetMany, Set, SetTen, Incr, Append, Delete}
use Rattle.zy_gen.specs.Traffic.{traffic_key, keys, block, request_text, IsSmall}
use Rattle.zy_gen.specs.Said.{IsKeyOf, IsSolidWord, Says, spoken}
use Rattle.zy_gen.proofs.SolidLemmas.{word-decimal, word-key}

-- ---- numbers and keys

small_decimal : (n : ℕ) → n < 2 ^ 32 → small_number_of (decimal n) ≡ Some n
small_decimal n small = small-found (decimal n) n (number_of-decimal n (omega arith)) small

key_short : (conn item : ℕ) → conn < 4096 → is_key (traffic_key conn item) ≡ true
unfolding traffic_key
key_short conn item few =
    let a = length-decimal-le 4 conn (omega arith) (omega arith) (omega arith) in
    let b = length-decimal-le 2 (item % 64) (omega arith) (omega arith) (omega arith) in
    le-leb (length (traffic_key conn item)) 250
    (omega (arith, a, b, length-append (decimal conn) (codes ":" ++ decimal (item % 64))))

block_size : (letter size : ℕ) → length (block letter size) ≡ size
unfolding block
block_size letter zero = refl
block_size letter (suc size) = ap suc (block_size (letter + 1) size)

-- ---- what lines say

abbrev noreply : Bool → List (List ℕ)
noreply true = codes "noreply" ∷ []
noreply false = []

asks_sizes : (verb : Verb) (k flags exptime bytes : List ℕ) (f b : ℕ) → is_exptime exptime ≡ true → small_number_of flags ≡ Some f → small_number_of bytes ≡ Some b
    → option_map (store_ask verb k) (if is_exptime exptime then sizes (small_number_of flags) (small_number_of bytes) else None) ≡ Some (stores verb k f b)
asks_sizes verb k flags exptime bytes f b lasting is_flags is_bytes =
    ap (λ t. option_map (store_ask verb k) (if t then sizes (small_number_of flags) (small_number_of bytes) else None)) lasting
    ∙ ap (λ n. option_map (store_ask verb k) (sizes n (small_number_of bytes))) is_flags ∙ ap (λ n. option_map (store_ask verb k) (sizes (Some f) n)) is_bytes

-- the end of a line that stores, with sizes that are numbers
checked : (verb : Verb) (k flags exptime bytes : List ℕ) (f b : ℕ) (quiet : Bool) → is_key k ≡ true → is_exptime exptime ≡ true → small_number_of flags ≡ Some f → small_number_of bytes ≡ Some b
    → check (is_key k && true) Errors.BadLine (find (option_map (store_ask verb k) (if is_exptime exptime then sizes (small_number_of flags) (small_number_of bytes) else None)) Errors.BadLine (λ ask. asks ask quiet))
    ≡ asks (stores verb k f b) quiet
checked verb k flags exptime bytes f b quiet short lasting is_flags is_bytes =
    ap (λ t. check (t && true) Errors.BadLine (find (option_map (store_ask verb k) (if is_exptime exptime then sizes (small_number_of flags) (small_number_of bytes) else None)) Errors.BadLine (λ ask. asks ask quiet))) short
    ∙ ap (λ found. find found Errors.BadLine (λ ask. asks ask quiet)) (asks_sizes verb k flags exptime bytes f b lasting is_flags is_bytes)

form_set : (k flags exptime bytes : List ℕ) (f b : ℕ) (quiet : Bool) → is_key k ≡ true → is_exptime exptime ≡ true → small_number_of flags ≡ Some f → small_number_of bytes ≡ Some b
    → form_of (codes "set" ∷ k ∷ flags ∷ exptime ∷ bytes ∷ noreply quiet) ≡ asks (stores Verbs.Set k f b) quiet
form_set k flags exptime bytes f b true = checked Verbs.Set k flags exptime bytes f b true
form_set k flags exptime bytes f b false = checked Verbs.Set k flags exptime bytes f b false

form_append : (k flags exptime bytes : List ℕ) (f b : ℕ) → is_key k ≡ true → is_exptime exptime ≡ true → small_number_of flags ≡ Some f → small_number_of bytes ≡ Some b
    → form_of (codes "append" ∷ k ∷ flags ∷ exptime ∷ bytes ∷ []) ≡ asks (stores Verbs.Append k f b) false
form_append k flags exptime bytes f b = checked Verbs.Append k flags exptime bytes f b false

form_get : (k : List ℕ) (ks : List (List ℕ)) → list_all is_key (k ∷ ks) ≡ true → form_of (codes "get" ∷ k ∷ ks) ≡ asks (gets (k ∷ ks) false) false
form_get k ks short =
    ap (λ t. find (if t then Some (following (k ∷ ks) false) else None) Errors.Unknown (λ (f : Following). check (list_all is_key f.words) Errors.BadLine (asks (gets f.words false) f.quiet)))
    (ap (λ t. (t && true) && true) (le-leb 1 (length (k ∷ ks)) (omega arith)))
    ∙ ap (λ t. check t Errors.BadLine (asks (gets (k ∷ ks) false) false)) short

form_delete : (k : List ℕ) → is_key k ≡ true → form_of (codes "delete" ∷ k ∷ []) ≡ asks (deletes k) false
form_delete k short = ap (λ t. check (t && true) Errors.BadLine (asks (deletes k) false)) short

form_incr : (k amount : List ℕ) (n : ℕ) → is_key k ≡ true → number_of amount ≡ Some n → form_of (codes "incr" ∷ k ∷ amount ∷ []) ≡ asks (counts k true n) false
form_incr k amount n short is =
    ap (λ t. check (t && true) Errors.BadLine (find (option_map (counts k true) (number_of amount)) Errors.BadDelta (λ ask. asks ask false))) short
    ∙ ap (λ found. find (option_map (counts k true) found) Errors.BadDelta (λ ask. asks ask false)) is

-- ---- requests

own : (conn item : ℕ) → IsKeyOf conn (traffic_key conn item)
own conn item = record { item = item; is = refl }

says_get : (conn item : ℕ) → conn < 4096 → Says conn (request_text conn item Get)
unfolding request_text
says_get conn item few = record {
  name = codes "get";
  words = traffic_key conn item ∷ [];
  after = [];
  ask = gets (traffic_key conn item ∷ []) false;
  quiet = false;
  text_is = simp append_assoc;
  solid = (record { some = omega arith; solid = (omega arith, (omega arith, (omega arith, tt))) }, (word-key conn item (omega arith), tt));
  form = form_get (traffic_key conn item) [] (ap (λ t. t && true) (key_short conn item few));
  tail = refl;
  own = (refl, (own conn item, tt));
}

says_delete : (conn item : ℕ) → conn < 4096 → Says conn (request_text conn item Delete)
unfolding request_text
says_delete conn item few = record {
  name = codes "delete";
  words = traffic_key conn item ∷ [];
  after = [];
  ask = deletes (traffic_key conn item);
  quiet = false;
  text_is = simp append_assoc;
  solid = (record { some = omega arith; solid = (omega arith, (omega arith, (omega arith, (omega arith, (omega arith, (omega arith, tt)))))) }, (word-key conn item (omega arith), tt));
  form = form_delete (traffic_key conn item) (key_short conn item few);
  tail = refl;
  own = own conn item;
}

says_incr : (conn item : ℕ) → conn < 4096 → Says conn (request_text conn item Incr)
unfolding request_text
says_incr conn item few = record {
  name = codes "incr";
  words = traffic_key conn item ∷ codes "7" ∷ [];
  after = [];
  ask = counts (traffic_key conn item) true 7;
  quiet = false;
  text_is = simp append_assoc;
  solid = (
    record { some = omega arith; solid = (omega arith, (omega arith, (omega arith, (omega arith, tt)))) },
    (word-key conn item (omega arith), (record { some = omega arith; solid = (omega arith, tt) }, tt)),
  );
  form = form_incr (traffic_key conn item) (codes "7") 7 (key_short conn item few) refl;
  tail = refl;
  own = own conn item;
}

digit_solid : (byte : ℕ) → 33 ≤ byte → IsSolidWord (byte ∷ [])
digit_solid byte high = record { some = omega arith; solid = (high, tt) }

set_solid : IsSolidWord (codes "set")
set_solid = record { some = omega arith; solid = (omega arith, (omega arith, (omega arith, tt))) }

says_set_ten : (conn item : ℕ) → conn < 4096 → Says conn (request_text conn item SetTen)
unfolding request_text
says_set_ten conn item few = record {
  name = codes "set";
  words = traffic_key conn item ∷ codes "0" ∷ codes "3600" ∷ codes "2" ∷ [];
  after = codes "10\r\n";
  ask = stores Verbs.Set (traffic_key conn item) 0 2;
  quiet = false;
  text_is = simp append_assoc;
  solid = (
    set_solid,
    (word-key conn item (omega arith), (digit_solid 48 (omega arith), (record { some = omega arith; solid = (omega arith, (omega arith, (omega arith, (omega arith, tt)))) }, (digit_solid 50 (omega arith), tt)))),
  );
  form = form_set (traffic_key conn item) (codes "0") (codes "3600") (codes "2") 0 2 false (key_short conn item few) refl refl refl;
  tail = refl;
  own = own conn item;
}

says_append : (conn item : ℕ) → conn < 4096 → Says conn (request_text conn item Append)
unfolding request_text
says_append conn item few = record {
  name = codes "append";
  words = traffic_key conn item ∷ codes "0" ∷ codes "0" ∷ codes "1" ∷ [];
  after = codes "9\r\n";
  ask = stores Verbs.Append (traffic_key conn item) 0 1;
  quiet = false;
  text_is = simp append_assoc;
  solid = (
    record { some = omega arith; solid = (omega arith, (omega arith, (omega arith, (omega arith, (omega arith, (omega arith, tt)))))) },
    (word-key conn item (omega arith), (digit_solid 48 (omega arith), (digit_solid 48 (omega arith), (digit_solid 49 (omega arith), tt)))),
  );
  form = form_append (traffic_key conn item) (codes "0") (codes "0") (codes "1") 0 1 (key_short conn item few) refl refl refl;
  tail = refl;
  own = own conn item;
}

ended : (item size : ℕ) → Some (size + 2) ≡ Some (length (block item size ++ codes "\r\n"))
ended item size = ap Some (sym (length-append (block item size) (codes "\r\n") ∙ ap (λ (n : ℕ). n + 2) (block_size item size)))

hour_solid : IsSolidWord (codes "3600")
hour_solid = record { some = omega arith; solid = (omega arith, (omega arith, (omega arith, (omega arith, tt)))) }

noreply_solid : IsSolidWord (codes "noreply")
noreply_solid = record { some = omega arith; solid = (omega arith, (omega arith, (omega arith, (omega arith, (omega arith, (omega arith, (omega arith, tt))))))) }

says_set : (conn item flags size : ℕ) (quiet : Bool) → conn < 4096 → flags < 65536 → size < 256 → Says conn (request_text conn item (Set flags size quiet))
unfolding request_text
says_set conn item flags size true few low small = record {
  name = codes "set";
  words = traffic_key conn item ∷ decimal flags ∷ codes "3600" ∷ decimal size ∷ codes "noreply" ∷ [];
  after = block item size ++ codes "\r\n";
  ask = stores Verbs.Set (traffic_key conn item) flags size;
  quiet = true;
  text_is = simp append_assoc;
  solid = (set_solid, (word-key conn item (omega arith), (word-decimal flags (omega arith), (hour_solid, (word-decimal size (omega arith), (noreply_solid, tt))))));
  form = form_set (traffic_key conn item) (decimal flags) (codes "3600") (decimal size) flags size true (key_short conn item few) refl (small_decimal flags (omega arith)) (small_decimal size (omega arith));
  tail = ended item size;
  own = own conn item;
}
says_set conn item flags size false few low small = record {
  name = codes "set";
  words = traffic_key conn item ∷ decimal flags ∷ codes "3600" ∷ decimal size ∷ [];
  after = block item size ++ codes "\r\n";
  ask = stores Verbs.Set (traffic_key conn item) flags size;
  quiet = false;
  text_is = simp append_assoc;
  solid = (set_solid, (word-key conn item (omega arith), (word-decimal flags (omega arith), (hour_solid, (word-decimal size (omega arith), tt)))));
  form = form_set (traffic_key conn item) (decimal flags) (codes "3600") (decimal size) flags size false (key_short conn item few) refl (small_decimal flags (omega arith)) (small_decimal size (omega arith));
  tail = ended item size;
  own = own conn item;
}

-- ---- many keys

key_list : ℕ → ℕ → ℕ → List (List ℕ)
key_list conn item zero = []
key_list conn item (suc count) = traffic_key conn item ∷ key_list conn (item + 1) count

spoken-keys : (word : List ℕ) (conn item count : ℕ) → spoken word (key_list conn item count) ≡ word ++ keys conn item count
unfolding key_list keys
spoken-keys word conn item zero = sym (append-nil word)
spoken-keys word conn item (suc count) = ap (λ (l : List ℕ). word ++ 32 ∷ l) (spoken-keys (traffic_key conn item) conn (item + 1) count)

solid-keys : (conn item count : ℕ) → conn < 4096 → AllByRecursion IsSolidWord (key_list conn item count)
unfolding key_list
solid-keys conn item zero few = tt
solid-keys conn item (suc count) few = (word-key conn item (omega arith), solid-keys conn (item + 1) count few)

short-keys : (conn item count : ℕ) → conn < 4096 → list_all is_key (key_list conn item count) ≡ true
unfolding key_list
short-keys conn item zero few = refl
short-keys conn item (suc count) few = ap (λ t. t && list_all is_key (key_list conn (item + 1) count)) (key_short conn item few) ∙ short-keys conn (item + 1) count few

own-keys : (conn item count : ℕ) → AllByRecursion (IsKeyOf conn) (key_list conn item count)
unfolding key_list
own-keys conn item zero = tt
own-keys conn item (suc count) = (own conn item, own-keys conn (item + 1) count)

form_many : (conn item count : ℕ) → conn < 4096 → form_of (codes "get" ∷ key_list conn item (suc count)) ≡ asks (gets (key_list conn item (suc count)) false) false
unfolding key_list
form_many conn item count few = form_get (traffic_key conn item) (key_list conn (item + 1) count) (short-keys conn item (suc count) few)

many_text : (conn item count : ℕ) → codes "get" ++ (keys conn item count ++ codes "\r\n") ≡ (spoken (codes "get") (key_list conn item count) ++ 13 ∷ []) ++ 10 ∷ []
many_text conn item count =
    sym (append_assoc (codes "get") (keys conn item count) (codes "\r\n")) ∙ ap (λ (l : List ℕ). l ++ codes "\r\n") (sym (spoken-keys (codes "get") conn item count))
    ∙ sym (append_assoc (spoken (codes "get") (key_list conn item count)) (13 ∷ []) (10 ∷ []))

says_many : (conn item : ℕ) → conn < 4096 → Says conn (request_text conn item GetMany)
unfolding request_text
says_many conn item few = record {
  name = codes "get";
  words = key_list conn item 50;
  after = [];
  ask = gets (key_list conn item 50) false;
  quiet = false;
  text_is = many_text conn item 50;
  solid = (record { some = omega arith; solid = (omega arith, (omega arith, (omega arith, tt))) }, solid-keys conn item 50 few);
  form = form_many conn item 49 few;
  tail = refl;
  own = (refl, own-keys conn item 50);
}

-- each request of a connection asks for something at the connection's own keys
pub says : (conn item : ℕ) (request : Request) → conn < 4096 → IsSmall request → Says conn (request_text conn item request)
says conn item Get few small = says_get conn item few
says conn item GetMany few small = says_many conn item few
says conn item (Set flags size quiet) few small = says_set conn item flags size quiet few small.0 small.1
says conn item SetTen few small = says_set_ten conn item few
says conn item Incr few small = says_incr conn item few
says conn item Append few small = says_append conn item few
says conn item Delete few small = says_delete conn item few
