-- Lines that ask for no answer, or may, are no meta commands.
use Rattle.std.proofs.Common.{◌≡◌, ℕ, Bool, true, false, if◌then◌else◌, List, [], ◌∷◌, refl, sym, ◌∙◌}
use Rattle.mc_meta.specs.declared.meta_line.MetaLine.{MetaLine}
use Rattle.mc_meta.specs.declared.meta_line.MetaLine.TheVariants.{Other, WrongCount, Bad, Noop, Get, Set, Delete}
use Rattle.mc_meta.specs.Meta.{is_meta_name, meta_line}
use Rattle.mc_parse.specs.declared.error_line.ErrorLine.TheVariants.{Unknown}
use Rattle.mc_parse.specs.Words.{words}
use Rattle.mc_parse.specs.Form.{Form, faulty, form_of, form_in, meta_form, line_form}
use Rattle.mc_laws.specs.Noreply.{is_loud, is_quiet}

-- a meta command does not take the word noreply, and is never quiet
meta-plain : (line : List ℕ) (said : MetaLine) → (is_loud (meta_form line said) ≡ false) × (is_quiet (meta_form line said) ≡ false)
meta-plain line Other = (refl, refl)
meta-plain line WrongCount = (refl, refl)
meta-plain line Bad = (refl, refl)
meta-plain line Noop = (refl, refl)
meta-plain line (Get key flags) = (refl, refl)
meta-plain line (Set key bytes flags unique mode marks) = (refl, refl)
meta-plain line (Delete key flags) = (refl, refl)

-- a line that is no meta command
pub record IsPlainLine (line : List ℕ) : Type 0 where
  pub name : List ℕ
  pub rest : List (List ℕ)
  pub split : words line ≡ name ∷ rest
  pub plain : is_meta_name name ≡ false

plain_by : (line : List ℕ) (tests : Form → Bool) → tests (faulty Unknown) ≡ false → tests (meta_form line (meta_line line)) ≡ false → tests (line_form line) ≡ true → IsPlainLine line
plain_by line tests unknown meta is = go (words line) refl is
  where
    choose : (b : Bool) (word : List ℕ) (ws : List (List ℕ)) → words line ≡ word ∷ ws → is_meta_name word ≡ b → tests (if b then meta_form line (meta_line line) else form_of (word ∷ ws)) ≡ true → IsPlainLine line
    choose true word ws split named is = let no : false ≡ true = sym meta ∙ is in absurd (cc)
    choose false word ws split named is = record { name = word; rest = ws; split = split; plain = named }

    go : (ws : List (List ℕ)) → words line ≡ ws → tests (form_in line ws) ≡ true → IsPlainLine line
    go [] split is = let no : false ≡ true = sym unknown ∙ is in absurd (cc)
    go (word ∷ ws) split is = choose (is_meta_name word) word ws split refl is

-- a line to which noreply may be added is no meta command, and neither is one that asks for no answer
pub loud_plain : (line : List ℕ) → is_loud (line_form line) ≡ true → IsPlainLine line
loud_plain line loud = plain_by line is_loud refl (meta-plain line (meta_line line)).0 loud

pub quiet_plain : (line : List ℕ) → is_quiet (line_form line) ≡ true → IsPlainLine line
quiet_plain line quiet = plain_by line is_quiet refl (meta-plain line (meta_line line)).1 quiet
