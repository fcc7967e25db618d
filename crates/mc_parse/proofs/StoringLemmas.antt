-- What the words after the name of a storage command say, read one after the other.
use Rattle.std.proofs.Common.{◌≡◌, ℕ, ◌+◌, ◌-◌, ◌<◌, ◌≤◌, Bool, true, false, List, [], ◌∷◌, ◌++◌, length, take, drop, refl, sym, ap, ◌∙◌, append_assoc, length-append, arith}
use Rattle.std.specs.List.{list_all}
use Rattle.std.specs.Prelude.{None, Some, option_map, if◌then◌else◌, nat_le, not, ◌&&◌}
use Rattle.std.proofs.lemmas.Bool.{lt-leb}
use Rattle.std.proofs.lemmas.List.{take-append-drop, take_all, length-drop}
use Rattle.std.proofs.Math.Seq.{take-append_seam, drop-append_seam}
use Rattle.zy_base.specs.Number.{number_of}
use Rattle.mc_parse.specs.declared.error_line.ErrorLine.TheVariants.{Unknown, BadLine}
use Rattle.mc_parse.specs.declared.name.Name.TheVariants.{Store, Cas}
use Rattle.mc_parse.specs.declared.verb.Verb.{Verb}
use Rattle.mc_parse.specs.Words.{is_noreply}
use Rattle.mc_parse.specs.Arity.{Following, following, from_to, lacks_noreply, asks_silence}
use Rattle.mc_parse.specs.Form.{Form, faulty, asks, check, find, is_key, sizes_of, store_ask, cas_ask, form_with, form_after}
use Rattle.mc_parse.specs.Storing.{Parts, quiet_by}

-- ---- fewer words than a storage command has

pub store_few : (verb : Verb) (ws : List (List ℕ)) → length ws < 4 → form_after (Store verb) ws ≡ faulty Unknown
store_few verb [] few = refl
store_few verb (a ∷ []) few = refl
store_few verb (a ∷ b ∷ []) few = refl
store_few verb (a ∷ b ∷ c ∷ []) few = refl
store_few verb (a ∷ b ∷ c ∷ d ∷ ws) few = absurd (omega arith)

pub cas_few : (ws : List (List ℕ)) → length ws < 5 → form_after Cas ws ≡ faulty Unknown
cas_few [] few = refl
cas_few (a ∷ []) few = refl
cas_few (a ∷ b ∷ []) few = refl
cas_few (a ∷ b ∷ c ∷ []) few = refl
cas_few (a ∷ b ∷ c ∷ d ∷ []) few = refl
cas_few (a ∷ b ∷ c ∷ d ∷ e ∷ ws) few = absurd (omega arith)

-- ---- the words of a storage command

-- further words than a command has are a fault
many : (least most lacks : Bool) (words : Following) (form : Following → Form) → most ≡ false
    → find (if (least && most) && not lacks then Some words else None) Unknown form ≡ faulty Unknown
many true most lacks words form is = rw is refl
many false most lacks words form is = refl

pub store_says : (verb : Verb) (key flags exptime bytes : List ℕ) (ws : List (List ℕ))
    → form_after (Store verb) (key ∷ flags ∷ exptime ∷ bytes ∷ ws)
    ≡ find (quiet_by ws) Unknown (λ quiet. check (list_all is_key (key ∷ [])) BadLine (find (option_map (store_ask verb key) (sizes_of flags exptime bytes)) BadLine (λ ask. asks ask quiet)))
store_says verb key flags exptime bytes [] = refl
store_says verb key flags exptime bytes (word ∷ []) = go (is_noreply word) refl
  where
    go : (b : Bool) → is_noreply word ≡ b → form_after (Store verb) (key ∷ flags ∷ exptime ∷ bytes ∷ word ∷ [])
        ≡ find (quiet_by (word ∷ [])) Unknown (λ quiet. check (list_all is_key (key ∷ [])) BadLine (find (option_map (store_ask verb key) (sizes_of flags exptime bytes)) BadLine (λ ask. asks ask quiet)))
    go true is = rw is refl
    go false is = rw is refl
store_says verb key flags exptime bytes (word ∷ next ∷ ws) =
    let all = key ∷ flags ∷ exptime ∷ bytes ∷ word ∷ next ∷ ws in
    many (nat_le 4 (length all)) (nat_le (length all) 5) (lacks_noreply (from_to 4 5) all) (following all (asks_silence (from_to 4 5) all)) (form_with (Store verb)) (lt-leb (length all) 5 (omega arith))

pub cas_says : (key flags exptime bytes unique : List ℕ) (ws : List (List ℕ))
    → form_after Cas (key ∷ flags ∷ exptime ∷ bytes ∷ unique ∷ ws)
    ≡ find (quiet_by ws) Unknown (λ quiet. check (list_all is_key (key ∷ [])) BadLine (find (cas_ask key (sizes_of flags exptime bytes) (number_of unique)) BadLine (λ ask. asks ask quiet)))
cas_says key flags exptime bytes unique [] = refl
cas_says key flags exptime bytes unique (word ∷ []) = go (is_noreply word) refl
  where
    go : (b : Bool) → is_noreply word ≡ b → form_after Cas (key ∷ flags ∷ exptime ∷ bytes ∷ unique ∷ word ∷ [])
        ≡ find (quiet_by (word ∷ [])) Unknown (λ quiet. check (list_all is_key (key ∷ [])) BadLine (find (cas_ask key (sizes_of flags exptime bytes) (number_of unique)) BadLine (λ ask. asks ask quiet)))
    go true is = rw is refl
    go false is = rw is refl
cas_says key flags exptime bytes unique (word ∷ next ∷ ws) =
    let all = key ∷ flags ∷ exptime ∷ bytes ∷ unique ∷ word ∷ next ∷ ws in
    many (nat_le 5 (length all)) (nat_le (length all) 6) (lacks_noreply (from_to 5 6) all) (following all (asks_silence (from_to 5 6) all)) (form_with Cas) (lt-leb (length all) 6 (omega arith))

-- ---- the place of a word

-- a text that is split after its first bytes, and again within the others, has these parts
pub split_parts : (text word rest : List ℕ) (spaces count : ℕ) → word ≡ take count (take (length text - spaces) (drop spaces text))
    → rest ≡ drop count (take (length text - spaces) (drop spaces text)) → Parts text word rest
split_parts text word rest spaces count word_is rest_is =
    let whole = take_all (length text - spaces) (drop spaces text) (omega (arith, length-drop spaces text)) in
    record {
      front = take spaces text;
      is = sym (take-append-drop spaces text)
          ∙ ap (λ (l : List ℕ). take spaces text ++ l) (sym (rw (word_is, rest_is) (take-append-drop count (take (length text - spaces) (drop spaces text)) ∙ whole)));
    }

-- the text after some bytes of a line has its words in the line too
pub parts_further : (line word text key rest : List ℕ) → Parts line word text → Parts text key rest → Parts line key rest
parts_further line word text key rest outer inner = record {
  front = outer.front ++ (word ++ inner.front);
  is = outer.is ∙ ap (λ (l : List ℕ). outer.front ++ (word ++ l)) inner.is
      ∙ ap (λ (l : List ℕ). outer.front ++ l) (sym (append_assoc word inner.front (key ++ rest)))
      ∙ sym (append_assoc outer.front (word ++ inner.front) (key ++ rest));
}

-- a word is where the text after it and its own length say
pub word_at : (line key rest : List ℕ) (from to : ℕ) → Parts line key rest → to + length rest ≡ length line → from + length key ≡ to
    → take (to - from) (drop from line) ≡ key
word_at line key rest from to parts to_is from_is =
    let size = ap (λ (l : List ℕ). length l) parts.is ∙ length-append parts.front (key ++ rest) in
    let front_is : from ≡ length parts.front = omega (arith, size, length-append key rest, to_is, from_is) in
    let count_is : to - from ≡ length key = omega (arith, from_is) in
    rw (count_is, front_is, parts.is) (ap (take (length key)) (drop-append_seam parts.front (key ++ rest)) ∙ take-append_seam key rest)

-- the text after a word is where its own length says
pub rest_at : (line word rest : List ℕ) (from : ℕ) → Parts line word rest → from + length rest ≡ length line → drop from line ≡ rest
rest_at line word rest from parts from_is =
    let size = ap (λ (l : List ℕ). length l) parts.is ∙ length-append parts.front (word ++ rest) in
    let front_is : from ≡ length (parts.front ++ word) = omega (arith, size, length-append word rest, length-append parts.front word, from_is) in
    rw (front_is, parts.is ∙ sym (append_assoc parts.front word rest)) (drop-append_seam (parts.front ++ word) rest)

pub parts_length : (line word rest : List ℕ) → Parts line word rest → length word + length rest ≤ length line
parts_length line word rest parts =
    omega (arith, ap (λ (l : List ℕ). length l) parts.is, length-append parts.front (word ++ rest), length-append word rest)
