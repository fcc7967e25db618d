-- What lines with these words say, and which lines need a block.
use Rattle.std.proofs.Common.{◌≡◌, ℕ, Bool, true, false, if◌then◌else◌, map, List, [], ◌∷◌, refl, ap, ◌∙◌}
use Rattle.std.specs.Prelude.{◌||◌, codes, Option, None, Some}
use Rattle.std.specs.Str.{bytes_eq}
use Rattle.mc_meta.specs.declared.flags.Flags.{Flags}
use Rattle.mc_meta.specs.declared.meta_line.MetaLine.{MetaLine}
use Rattle.mc_meta.specs.declared.meta_line.MetaLine.TheVariants.{Other, Bad, Set}
use Rattle.mc_meta.specs.Words.{Placed, words, words_at, text_of}
use Rattle.mc_meta.specs.Flags.{get_letters, delete_letters, flags_of}
use Rattle.mc_meta.specs.Meta.{is_key, get_with, delete_with, noop_line, get_line, set_line, delete_line, is_meta_name, line_of, meta_of, meta_line}
use Rattle.mc_meta.proofs.LineLemmas.{reads_as}
use Rattle.mc_meta.proofs.PlaceLemmas.{words_at-texts}

-- ---- other lines

-- another name is that of no meta command
pub other_of : (name : List ℕ) (rest : List Placed) → is_meta_name name ≡ false → line_of name rest ≡ Other
other_of name rest is = go (bytes_eq name (codes "mn")) (bytes_eq name (codes "mg")) (bytes_eq name (codes "ms")) (bytes_eq name (codes "md")) is
  where
    go : (a b c d : Bool) → a || b || c || d ≡ false
        → (if a then noop_line rest else if b then get_line rest else if c then set_line rest else if d then delete_line rest else Other) ≡ Other
    go true b c d is = absurd (cc)
    go false true c d is = absurd (cc)
    go false false true d is = absurd (cc)
    go false false false true is = absurd (cc)
    go false false false false is = refl

-- a line that begins with another name is no meta command
pub other_line : (line name : List ℕ) (texts : List (List ℕ)) → words line ≡ name ∷ texts → is_meta_name name ≡ false → meta_line line ≡ Other
other_line line name texts split is = let read = reads_as line name texts split in read.said ∙ other_of name read.rest is

wordless_of : (line : List ℕ) (all : List Placed) → map text_of all ≡ [] → meta_line line ≡ meta_of all → meta_line line ≡ Other
wordless_of line [] none is = is
wordless_of line (first ∷ rest) none is = absurd (cc)

-- neither is a line without a word
pub wordless_line : (line : List ℕ) → words line ≡ [] → meta_line line ≡ Other
wordless_line line none = wordless_of line (words_at 0 line) (words_at-texts 0 line ∙ none) refl

-- ---- lines without a block

-- the size of the block that a line has, where it has one
abbrev pub block_of : MetaLine → Option ℕ
block_of (Set key bytes flags unique mode marks) = Some bytes
block_of line = None

noop_alone : (rest : List Placed) → block_of (noop_line rest) ≡ None
noop_alone [] = refl
noop_alone (word ∷ rest) = refl

get_alone : (rest : List Placed) → block_of (get_line rest) ≡ None
get_alone [] = refl
get_alone (key ∷ rest) = go (is_key key.text) (flags_of get_letters rest)
  where
    go : (short : Bool) (said : Option Flags) → block_of (if short then get_with key said else Bad) ≡ None
    go true None = refl
    go true (Some said) = refl
    go false said = refl

delete_alone : (rest : List Placed) → block_of (delete_line rest) ≡ None
delete_alone [] = refl
delete_alone (key ∷ rest) = go (is_key key.text) (flags_of delete_letters rest)
  where
    go : (short : Bool) (said : Option Flags) → block_of (if short then delete_with key said else Bad) ≡ None
    go true None = refl
    go true (Some said) = refl
    go false said = refl

alone_of : (name : List ℕ) (rest : List Placed) → bytes_eq name (codes "ms") ≡ false → block_of (line_of name rest) ≡ None
alone_of name rest is = go (bytes_eq name (codes "mn")) (bytes_eq name (codes "mg")) (bytes_eq name (codes "ms")) (bytes_eq name (codes "md")) is
  where
    go : (a b c d : Bool) → c ≡ false
        → block_of (if a then noop_line rest else if b then get_line rest else if c then set_line rest else if d then delete_line rest else Other) ≡ None
    go true b c d is = noop_alone rest
    go false true c d is = get_alone rest
    go false false true d is = absurd (cc)
    go false false false true is = delete_alone rest
    go false false false false is = refl

-- a line has a block only if its name is `ms`
pub alone_line : (line name : List ℕ) (texts : List (List ℕ)) → words line ≡ name ∷ texts → bytes_eq name (codes "ms") ≡ false → block_of (meta_line line) ≡ None
alone_line line name texts split is = let read = reads_as line name texts split in ap block_of read.said ∙ alone_of name read.rest is
