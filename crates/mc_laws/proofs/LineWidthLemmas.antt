-- How many words a line has, and how many letters the meta command that it is: fewer than the line has bytes.
use Rattle.std.specs.Prelude.{◌==◌, ◌&&◌, codes, if◌then◌else◌, filter, Option, None, Some, option_map, not, ⊤}
use Rattle.std.specs.Option.{option_and_then}
use Rattle.std.specs.Str.{bytes_eq}
use Rattle.std.proofs.Common.{◌≡◌, ℕ, ◌+◌, ◌<◌, ◌≤◌, List, [], ◌∷◌, length, Bool, true, false, refl, arith, length-append}
use Rattle.std.proofs.lemmas.List.Filters.{length-filter_both}
use Rattle.mc_meta.specs.declared.meta_line.MetaLine.{MetaLine}
use Rattle.mc_meta.specs.declared.meta_line.MetaLine.TheVariants as Lines
use Rattle.mc_meta.specs.Words.{Placed, pieces_of, put_before, placed, is_placed_word, has_byte, words, words_at}
use Rattle.mc_meta.specs.Number.{number_of as token_number, small_number_of as small_token, is_exptime}
use Rattle.mc_meta.specs.Flags.{get_letters, set_letters, delete_letters, is_among, with_letter, with_flags, with_unique, with_mode, with_lone, with_token, with_flag, mode_of, flags_after, flags_of, no_flags}
use Rattle.mc_meta.specs.Meta.{is_key, agrees, get_with, set_with, delete_with, noop_line, get_line, set_line, delete_line, line_of, meta_of, meta_line, span_of}

-- the flags that were read
abbrev Of : {A : Type 0} → A → Type 0
Of {A} a = A

abbrev Flags : Type 0
Flags = Of no_flags

-- the number of letters of a meta line
abbrev pub line_width : MetaLine → ℕ
line_width (Lines.Get key flags) = length flags
line_width (Lines.Set key bytes flags unique mode marks) = length marks
line_width (Lines.Delete key flags) = length flags
line_width line = 0

-- ---- the words of a line

put_kept : (byte : ℕ) (pieces : List (List ℕ)) → 0 < length pieces → length (put_before byte pieces) ≤ length pieces
put_kept byte [] some = absurd (omega arith)
put_kept byte (piece ∷ pieces) some = omega arith

pieces_some : (text : List ℕ) → 0 < length (pieces_of text)
pieces_some [] = omega arith
pieces_some (byte ∷ bytes) = go (byte == 32) (pieces_of bytes)
  where
    go : (b : Bool) (pieces : List (List ℕ)) → 0 < length (if b then [] ∷ pieces else put_before byte pieces)
    go true pieces = omega arith
    go false [] = omega arith
    go false (piece ∷ pieces) = omega arith

-- a text has at most one piece more than bytes
pieces_few : (text : List ℕ) → length (pieces_of text) ≤ length text + 1
pieces_few [] = omega arith
pieces_few (byte ∷ bytes) = go (byte == 32) (pieces_few bytes)
  where
    go : (b : Bool) → length (pieces_of bytes) ≤ length bytes + 1 → length (if b then [] ∷ pieces_of bytes else put_before byte (pieces_of bytes)) ≤ length (byte ∷ bytes) + 1
    go true few = omega (arith, few)
    go false few = omega (arith, few, put_kept byte (pieces_of bytes) (pieces_some bytes))

filter_few : {X : Type 0} (p : X → Bool) (xs : List X) → length (filter p xs) ≤ length xs
filter_few p xs = let both = length-filter_both p (λ x. not (p x)) (λ x. refl) xs in omega (arith, both)

pub words_few : (line : List ℕ) → length (words line) ≤ length line + 1
unfolding words
words_few line = omega (arith, filter_few has_byte (pieces_of line), pieces_few line)

placed_size : (at : ℕ) (pieces : List (List ℕ)) → length (placed at pieces) ≡ length pieces
placed_size at [] = refl
placed_size at (piece ∷ pieces) = let rest = placed_size (at + length piece + 1) pieces in omega (arith, rest)

placed_few : (at : ℕ) (text : List ℕ) → length (words_at at text) ≤ length text + 1
unfolding words_at
placed_few at text = omega (arith, filter_few is_placed_word (placed at (pieces_of text)), placed_size at (pieces_of text), pieces_few text)

-- ---- meta lines

-- further flags have at most `n` marks
abbrev HasFewMarks : ℕ → Option Flags → Type 0
HasFewMarks n None = ⊤
HasFewMarks n (Some said) = length said.marks ≤ n

marks_mapped : {X : Type 0} (n : ℕ) (f : X → Flags) (o : Option X) → ((x : X) → length (f x).marks ≤ n) → HasFewMarks n (option_map f o)
marks_mapped n f None each = tt
marks_mapped n f (Some x) each = each x

lone_marks : (said : Flags) (letter : ℕ) (token : List ℕ) → HasFewMarks (length said.marks + 1) (with_lone said letter token)
lone_marks said letter [] = let size = length-append said.marks (letter ∷ []) in omega (arith, size)
lone_marks said letter (byte ∷ token) = tt

token_marks : (said : Flags) (letter : ℕ) (token : List ℕ) → HasFewMarks (length said.marks + 1) (with_token said letter token)
token_marks said letter token = go (letter == 70) (letter == 67) (letter == 77) (letter == 84) (is_exptime token)
  where
    go : (f c m t e : Bool) → HasFewMarks (length said.marks + 1)
        (if f then option_map (with_flags said) (small_token token) else if c then option_map (with_unique said) (token_number token) else if m then option_map (with_mode said) (mode_of token)
        else if t then (if e then Some said else None) else with_lone said letter token)
    go true c m t e = marks_mapped (length said.marks + 1) (with_flags said) (small_token token) (λ x. omega arith)
    go false true m t e = marks_mapped (length said.marks + 1) (with_unique said) (token_number token) (λ x. omega arith)
    go false false true t e = marks_mapped (length said.marks + 1) (with_mode said) (mode_of token) (λ x. omega arith)
    go false false false true true = omega arith
    go false false false true false = tt
    go false false false false e = lone_marks said letter token

flag_marks : (listed : List ℕ) (said : Flags) (word : List ℕ) → HasFewMarks (length said.marks + 1) (with_flag listed said word)
flag_marks listed said [] = tt
flag_marks listed said (letter ∷ token) = go (is_among listed letter && not (is_among said.seen letter))
  where
    go : (b : Bool) → HasFewMarks (length said.marks + 1) (if b then with_token (with_letter said letter) letter token else None)
    go true = token_marks (with_letter said letter) letter token
    go false = tt

more_marks : (n m : ℕ) (o : Option Flags) → n ≤ m → HasFewMarks n o → HasFewMarks m o
more_marks n m None less few = tt
more_marks n m (Some said) less few = omega (arith, less, few)

flags_marks : (listed : List ℕ) (said : Flags) (ws : List Placed) → HasFewMarks (length said.marks + length ws) (flags_after listed said ws)
flags_marks listed said [] = omega arith
flags_marks listed said (word ∷ ws) = go (with_flag listed said word.text) (flag_marks listed said word.text) (λ next. flags_marks listed next ws)
  where
    go : (o : Option Flags) → HasFewMarks (length said.marks + 1) o → ((next : Flags) → HasFewMarks (length next.marks + length ws) (flags_after listed next ws))
        → HasFewMarks (length said.marks + length (word ∷ ws)) (option_and_then (λ next. flags_after listed next ws) o)
    go None few rest = tt
    go (Some next) few rest = more_marks (length next.marks + length ws) (length said.marks + length (word ∷ ws)) (flags_after listed next ws) (omega (arith, few)) (rest next)

all_marks : (listed : List ℕ) (ws : List Placed) → HasFewMarks (length ws) (flags_of listed ws)
all_marks listed ws = more_marks (length no_flags.marks + length ws) (length ws) (flags_of listed ws) (omega arith) (flags_marks listed no_flags ws)

kept_width : (n : ℕ) (b : Bool) (line : MetaLine) → line_width line ≤ n → line_width (if b then line else Lines.Bad) ≤ n
kept_width n true line few = few
kept_width n false line few = omega arith

get_width : (n : ℕ) (key : Placed) (o : Option Flags) → HasFewMarks n o → line_width (get_with key o) ≤ n
get_width n key None few = omega arith
get_width n key (Some said) few = few

delete_width : (n : ℕ) (key : Placed) (o : Option Flags) → HasFewMarks n o → line_width (delete_with key o) ≤ n
delete_width n key None few = omega arith
delete_width n key (Some said) few = few

set_width : (n : ℕ) (key : Placed) (bytes : Option ℕ) (o : Option Flags) → HasFewMarks n o → line_width (set_with key bytes o) ≤ n
set_width n key None None few = omega arith
set_width n key None (Some said) few = omega arith
set_width n key (Some bytes) None few = omega arith
set_width n key (Some bytes) (Some said) few = kept_width n (agrees said.unique said.mode) (Lines.Set (span_of key) bytes said.flags said.unique said.mode said.marks) few

noop_width : (n : ℕ) (ws : List Placed) → line_width (noop_line ws) ≤ n
noop_width n [] = omega arith
noop_width n (word ∷ ws) = omega arith

got_width : (ws : List Placed) → line_width (get_line ws) ≤ length ws
got_width [] = omega arith
got_width (key ∷ ws) = let few = kept_width (length ws) (is_key key.text) (get_with key (flags_of get_letters ws)) (get_width (length ws) key (flags_of get_letters ws) (all_marks get_letters ws)) in omega (arith, few)

stored_width : (ws : List Placed) → line_width (set_line ws) ≤ length ws
stored_width [] = omega arith
stored_width (key ∷ []) = omega arith
stored_width (key ∷ datalen ∷ ws) =
    let few = kept_width (length ws) (is_key key.text) (set_with key (small_token datalen.text) (flags_of set_letters ws)) (set_width (length ws) key (small_token datalen.text) (flags_of set_letters ws) (all_marks set_letters ws)) in
    omega (arith, few)

deleted_width : (ws : List Placed) → line_width (delete_line ws) ≤ length ws
deleted_width [] = omega arith
deleted_width (key ∷ ws) = let few = kept_width (length ws) (is_key key.text) (delete_with key (flags_of delete_letters ws)) (delete_width (length ws) key (flags_of delete_letters ws) (all_marks delete_letters ws)) in omega (arith, few)

named_width : (name : List ℕ) (ws : List Placed) → line_width (line_of name ws) ≤ length ws
named_width name ws = go (bytes_eq name (codes "mn")) (bytes_eq name (codes "mg")) (bytes_eq name (codes "ms")) (bytes_eq name (codes "md"))
  where
    go : (n g s d : Bool) → line_width (if n then noop_line ws else if g then get_line ws else if s then set_line ws else if d then delete_line ws else Lines.Other) ≤ length ws
    go true g s d = noop_width (length ws) ws
    go false true s d = got_width ws
    go false false true d = stored_width ws
    go false false false true = deleted_width ws
    go false false false false = omega arith

words_width : (n : ℕ) (ws : List Placed) → length ws ≤ n + 1 → line_width (meta_of ws) ≤ n
words_width n [] few = omega arith
words_width n (name ∷ ws) few = omega (arith, few, named_width name.text ws)

pub meta_line_width : (line : List ℕ) → line_width (meta_line line) ≤ length line
meta_line_width line = words_width (length line) (words_at 0 line) (placed_few 0 line)
