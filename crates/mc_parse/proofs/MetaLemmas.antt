-- Which lines are read as meta commands, and what must come with these.
use Rattle.std.proofs.Common.{◌≡◌, ℕ, Bool, true, false, if◌then◌else◌, List, [], ◌∷◌, refl, sym, ap, ◌∙◌}
use Rattle.std.specs.Prelude.{◌||◌, codes, Option, None, Some}
use Rattle.std.specs.Str.{bytes_eq}
use Rattle.std.proofs.lemmas.Slice.Eq.{bytes_eq-Decides}
use Rattle.mc_meta.specs.declared.meta_line.MetaLine.{MetaLine}
use Rattle.mc_meta.specs.declared.meta_line.MetaLine.TheVariants.{Set}
use Rattle.mc_meta.specs.Meta.{is_meta_name, meta_line}
use Rattle.mc_meta.proofs.SaidLemmas.{block_of, other_line, wordless_line, alone_line}
use Rattle.mc_parse.specs.declared.error_line.ErrorLine.TheVariants.{Unknown}
use Rattle.mc_parse.specs.declared.name.Name.{Name}
use Rattle.mc_parse.specs.declared.need.Need.TheVariants.{Nothing}
use Rattle.mc_parse.specs.Words.{words}
use Rattle.mc_parse.specs.Name.{name_of}
use Rattle.mc_parse.specs.Form.{Ask, asks, find, form_after, form_of, form_in, meta_form, line_form}
use Rattle.mc_parse.specs.Need.{need_for}

-- ---- names

-- the name of a meta command is no other name
pub meta_unnamed : (word : List ℕ) → is_meta_name word ≡ true → name_of word ≡ None
meta_unnamed word is = go (bytes_eq word (codes "mn")) (bytes_eq word (codes "mg")) (bytes_eq word (codes "ms")) (bytes_eq word (codes "md")) refl refl refl refl is
  where
    go : (a b c d : Bool) → bytes_eq word (codes "mn") ≡ a → bytes_eq word (codes "mg") ≡ b → bytes_eq word (codes "ms") ≡ c → bytes_eq word (codes "md") ≡ d
        → a || b || c || d ≡ true → name_of word ≡ None
    go true b c d first second third fourth any = ap name_of ((bytes_eq-Decides word (codes "mn")).0 first)
    go false true c d first second third fourth any = ap name_of ((bytes_eq-Decides word (codes "mg")).0 second)
    go false false true d first second third fourth any = ap name_of ((bytes_eq-Decides word (codes "ms")).0 third)
    go false false false true first second third fourth any = ap name_of ((bytes_eq-Decides word (codes "md")).0 fourth)
    go false false false false first second third fourth any = absurd (cc)

named_plain : (word : List ℕ) (name : Name) → name_of word ≡ Some name → is_meta_name word ≡ false
named_plain word name is = go (is_meta_name word) refl
  where
    go : (b : Bool) → is_meta_name word ≡ b → b ≡ false
    go true meta = let no : ◌≡◌ {A = Option Name} None (Some name) = sym (meta_unnamed word meta) ∙ is in absurd (cc)
    go false meta = refl

-- ---- lines of other commands

-- a line that begins with another word says what its words say
pub plain_form : (line word : List ℕ) (ws : List (List ℕ)) → words line ≡ word ∷ ws → is_meta_name word ≡ false → line_form line ≡ form_of (word ∷ ws)
plain_form line word ws split plain = ap (form_in line) split ∙ ap (λ (b : Bool). if b then meta_form line (meta_line line) else form_of (word ∷ ws)) plain

-- a line that begins with the name of a meta command says what is read in it
pub read_form : (line word : List ℕ) (ws : List (List ℕ)) → words line ≡ word ∷ ws → is_meta_name word ≡ true → line_form line ≡ meta_form line (meta_line line)
read_form line word ws split meta = ap (form_in line) split ∙ ap (λ (b : Bool). if b then meta_form line (meta_line line) else form_of (word ∷ ws)) meta

-- a line that begins with the name of another command says what the name says with the words after it
pub named_form : (line word : List ℕ) (ws : List (List ℕ)) (name : Name) → words line ≡ word ∷ ws → name_of word ≡ Some name → line_form line ≡ form_after name ws
named_form line word ws name split is =
    plain_form line word ws split (named_plain word name is) ∙ ap (λ (found : Option Name). find found Unknown (λ name. form_after name ws)) is

-- a line whose words ask for something, but not as a meta command, asks for this
pub asking_form : (line : List ℕ) (ask : Ask) (quiet : Bool) → form_of (words line) ≡ asks ask quiet → line_form line ≡ asks ask quiet
asking_form line ask quiet is = go (words line) refl is
  where
    found : (word : List ℕ) (ws : List (List ℕ)) (name : Option Name) → words line ≡ word ∷ ws → name_of word ≡ name → find name Unknown (λ name. form_after name ws) ≡ asks ask quiet → line_form line ≡ asks ask quiet
    found word ws None split named is = absurd (cc)
    found word ws (Some name) split named is = named_form line word ws name split named ∙ is

    go : (ws : List (List ℕ)) → words line ≡ ws → form_of ws ≡ asks ask quiet → line_form line ≡ asks ask quiet
    go [] split is = absurd (cc)
    go (word ∷ ws) split is = found word ws (name_of word) split refl is

-- a line that begins with no name of another command says what is read in it as a meta command
pub unnamed_form : (line word : List ℕ) (ws : List (List ℕ)) → words line ≡ word ∷ ws → name_of word ≡ None → line_form line ≡ meta_form line (meta_line line)
unnamed_form line word ws split none = go (is_meta_name word) refl
  where
    go : (b : Bool) → is_meta_name word ≡ b → line_form line ≡ meta_form line (meta_line line)
    go true meta = read_form line word ws split meta
    go false meta =
        plain_form line word ws split meta ∙ ap (λ (found : Option Name). find found Unknown (λ name. form_after name ws)) none
        ∙ sym (ap (meta_form line) (other_line line word ws split meta))

-- and so does a line without a word
pub wordless_form : (line : List ℕ) → words line ≡ [] → line_form line ≡ meta_form line (meta_line line)
wordless_form line none = ap (form_in line) none ∙ sym (ap (meta_form line) (wordless_line line none))

-- ---- what must come with a line

need_alone : (line : List ℕ) (said : MetaLine) → block_of said ≡ None → need_for (meta_form line said) ≡ Nothing
need_alone line (Set key bytes flags unique mode marks) none = absurd (cc)
need_alone line said none = refl

-- a line that begins with no name of another command needs a block only if it is a meta command that stores
pub unstored_need : (line word : List ℕ) (ws : List (List ℕ)) → words line ≡ word ∷ ws → name_of word ≡ None → bytes_eq word (codes "ms") ≡ false → need_for (line_form line) ≡ Nothing
unstored_need line word ws split none other = ap need_for (unnamed_form line word ws split none) ∙ need_alone line (meta_line line) (alone_line line word ws split other)

-- what a line needs that begins with no name of another command
pub unnamed_needs : (line word : List ℕ) (ws : List (List ℕ)) → words line ≡ word ∷ ws → name_of word ≡ None
    → (if bytes_eq word (codes "ms") then need_for (meta_form line (meta_line line)) else Nothing) ≡ need_for (line_form line)
unnamed_needs line word ws split none = go (bytes_eq word (codes "ms")) refl
  where
    go : (b : Bool) → bytes_eq word (codes "ms") ≡ b → (if b then need_for (meta_form line (meta_line line)) else Nothing) ≡ need_for (line_form line)
    go true is = sym (ap need_for (unnamed_form line word ws split none))
    go false is = sym (unstored_need line word ws split none is)
