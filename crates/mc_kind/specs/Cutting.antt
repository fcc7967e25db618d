-- How the output of a session is cut into the answers of its commands.
use Rattle.std.specs.Prelude.{◌≡◌, ◌⊎◌, ℕ, ◌-◌, ◌<◌, ◌≤◌, List, [], ◌++◌, length, take, drop, slice_get, Some, ⊤}
use Rattle.std.specs.List.{concat}
use Rattle.mc_parse.specs.declared.command.Command.{Command}
use Rattle.mc_allows.specs.declared.said.Said.{Said}
use Rattle.mc_answers.specs.Answer.{IsAnswer, IsSomeAnswer, AreSomeAnswers}
use Rattle.mc_answers.specs.Kinds.{IsErrorLine}
use Rattle.mc_answers.specs.Output.{Cut, IsCut, FitsText, text_at}
use Rattle.mc_kind.specs.declared.cutting.Cutting.{Cutting}
use Rattle.mc_kind.specs.declared.cutting.Cutting.TheVariants.{Kind, Surplus, Other, All, Front}
use Rattle.mc_kind.specs.declared.text.Text.{Text}
use Rattle.mc_kind.specs.First.{NoneFits}

-- ---- texts

-- the bytes of a text in an output
abbrev pub text_in : List ℕ → Text → List ℕ
text_in output text = take (text.to - text.from) (drop text.from output)

-- the text stands in the output
pub record StandsIn (output : List ℕ) (text : Text) : Type 0 where
  pub rises : text.from ≤ text.to
  pub within : text.to ≤ length output

-- there are at most as many texts as commands, and they stand in the output
pub record AreTexts (commands : List Command) (output : List ℕ) (texts : List Text) : Type 0 where
  pub few : length texts ≤ length commands
  pub each : (i : ℕ) (text : Text) → slice_get texts i ≡ Some text → StandsIn output text

-- ---- cuts

-- the output of a session with these commands is cut in no way
abbrev pub HasNoCut : List Command → List ℕ → Type 0
HasNoCut commands output = (cut : Cut) → IsCut commands output cut → ⊥

-- answers of these commands, whatever the replies: the output begins with them, or they begin with the output
pub record BeginOutput (commands : List Command) (output : List ℕ) (texts : List (List ℕ)) : Type 0 where
  pub answers : AreSomeAnswers commands texts
  pub rest : List ℕ
  pub more : List ℕ
  pub is : concat texts ++ rest ≡ output ++ more

-- an output refutes the command with this index: all answers of the commands before it with which the output may begin
-- end at one offset, and what is left there neither begins with an answer of the command, whatever the replies, nor is
-- the beginning of one
pub record IsRefutedAt (commands : List Command) (output : List ℕ) (index : ℕ) : Type 0 where
  pub command : Command
  pub is : slice_get commands index ≡ Some command
  pub at : ℕ
  pub some : at < length output
  pub before : (texts : List (List ℕ)) → BeginOutput (take index commands) output texts → length (concat texts) ≡ at
  pub none : NoneFits (IsSomeAnswer command) (drop at output)

-- an output goes on after its answers: it has no cut, all answers of the commands with which it may begin end at one
-- offset before its end, and what is left there is not an error line alone
pub record GoesOn (commands : List Command) (output : List ℕ) : Type 0 where
  pub uncut : HasNoCut commands output
  pub at : ℕ
  pub some : at < length output
  pub answers : (texts : List (List ℕ)) → BeginOutput commands output texts → length (concat texts) ≡ at
  pub other : IsErrorLine (drop at output) → ⊥

-- a cut has these bytes for the command with this index; if they are some, they are its answer
pub record HasText (commands : List Command) (cut : Cut) (i : ℕ) (bytes : List ℕ) : Type 0 where
  pub is : text_at cut i ≡ bytes
  pub whole : (command : Command) (saids : List Said) → slice_get commands i ≡ Some command
      → FitsText cut i command saids → (bytes ≡ []) ⊎ IsAnswer command saids bytes

-- a cut has these texts for the first commands
abbrev pub HasTexts : List Command → List ℕ → List Text → Cut → Type 0
HasTexts commands output texts cut =
    (i : ℕ) (text : Text) → slice_get texts i ≡ Some text → HasText commands cut i (text_in output text)

-- a cut has no byte for the commands from this index on
abbrev pub HasNoMore : ℕ → Cut → Type 0
HasNoMore count cut = (i : ℕ) → count ≤ i → text_at cut i ≡ []

-- each cut has these texts for the first commands
abbrev pub AreFirstTexts : List Command → List ℕ → List Text → Type 0
AreFirstTexts commands output texts = (cut : Cut) → IsCut commands output cut → HasTexts commands output texts cut

-- in each cut the other commands have no byte
abbrev pub AreAllTexts : List Command → List ℕ → List Text → Type 0
AreAllTexts commands output texts = (cut : Cut) → IsCut commands output cut → HasNoMore (length texts) cut

-- a refuted output has no cut: it is refuted at the command that is named, or goes on after its answers; each cut has
-- the texts that are found
abbrev pub IsCutting : List Command → List ℕ → Cutting → Type 0
IsCutting commands output (Kind index) = HasNoCut commands output × IsRefutedAt commands output index
IsCutting commands output Surplus = GoesOn commands output
IsCutting commands output (Other index) = ⊤
IsCutting commands output (All texts) =
    AreTexts commands output texts × AreFirstTexts commands output texts × AreAllTexts commands output texts
IsCutting commands output (Front texts) = AreTexts commands output texts × AreFirstTexts commands output texts
