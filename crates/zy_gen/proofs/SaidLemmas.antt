-- A text that asks for something at a connection's own keys is a frame text, and its command is
-- about them.
use Rattle.std.proofs.Common.{◌≡◌, ℕ, ◌+◌, ◌≤◌, Bool, List, [], ◌∷◌, ◌++◌, length, sym, ap, ◌∙◌, subst, arith, length-append}
use Rattle.std.specs.Prelude.{None}
use Rattle.mc_parse.specs.Form.{Ask, asks, form_of, line_form}
use Rattle.mc_parse.specs.Need.{need, need_for, ask_need}
use Rattle.mc_parse.specs.Plain.{IsOwnCommand, IsOwnAsk, IsOwnForm}
use Rattle.mc_parse.proofs.MetaLemmas.{asking_form}
use Rattle.zy_frame.specs.Line.{first_line, chomped}
use Rattle.zy_frame.specs.Frame.{IsFrameText, frame_of, frame_in, frame_by, command_of}
use Rattle.zy_frame.proofs.BoundLemmas.{frame_own}
use Rattle.zy_frame.proofs.LineLemmas.{first_line-ended}
use Rattle.zy_frame.proofs.CutLemmas.{is_text}
use Rattle.zy_frame.proofs.GoingOn.{tail_is, frame_is}
use Rattle.zy_gen.specs.Said.{IsKeyOf, Says, spoken}
use Rattle.zy_gen.proofs.SolidLemmas.{each-append, words-spoken, in_line-spoken, no_feed, chomped-return}

-- ---- what is asked for

-- the command of what is asked for is plain, and its keys are the connection's
own_by : (conn : ℕ) (ask : Ask) (quiet : Bool) (line after : List ℕ) → line_form line ≡ asks ask quiet → IsOwnAsk (IsKeyOf conn) ask → IsOwnCommand (IsKeyOf conn) (command_of (frame_by (ask_need ask) line after))
own_by conn ask quiet line after form own = frame_own (IsKeyOf conn) (ask_need ask) line after (subst (IsOwnForm (IsKeyOf conn)) (sym form) own)

-- ---- the text

module _ (conn : ℕ) (text : List ℕ) (says : Says conn text) (few : length text ≤ 65536) where
  line : List ℕ
  line = spoken says.name says.words

  form_is : line_form line ≡ asks says.ask says.quiet
  unfolding line
  form_is = asking_form line says.ask says.quiet (ap form_of (words-spoken says.name says.words says.solid) ∙ says.form)

  need_is : need (chomped (line ++ 13 ∷ [])) ≡ ask_need says.ask
  unfolding need
  need_is = ap need (chomped-return line) ∙ ap need_for form_is

  none : first_line (line ++ 13 ∷ []) ≡ None
  unfolding line
  none = no_feed (line ++ 13 ∷ []) (each-append (λ byte. 11 ≤ byte) line (13 ∷ []) (in_line-spoken says.name says.words says.solid) (omega arith, tt))

  short : length (line ++ 13 ∷ []) ≤ 65536
  unfolding line
  short = let all : length text ≡ length (line ++ 13 ∷ []) + length (10 ∷ says.after) = ap length says.text_is ∙ length-append (line ++ 13 ∷ []) (10 ∷ says.after) in omega arith

  -- it is a frame text
  pub said_text : IsFrameText text
  unfolding line
  said_text = subst IsFrameText (sym says.text_is) (is_text (line ++ 13 ∷ []) says.after none (tail_is (line ++ 13 ∷ []) (ask_need says.ask) short need_is ∙ says.tail))

  framed : frame_of text ≡ frame_by (ask_need says.ask) line says.after
  unfolding line
  framed =
      ap frame_of says.text_is ∙ ap frame_in (first_line-ended (line ++ 13 ∷ []) says.after none) ∙ frame_is (line ++ 13 ∷ []) says.after (ask_need says.ask) short need_is
      ∙ ap (λ (l : List ℕ). frame_by (ask_need says.ask) l says.after) (chomped-return line)

  -- its command is plain, and its keys are the connection's
  pub said_own : IsOwnCommand (IsKeyOf conn) (command_of (frame_of text))
  said_own = subst (λ kind. IsOwnCommand (IsKeyOf conn) (command_of kind)) (sym framed) (own_by conn says.ask says.quiet line says.after form_is says.own)
