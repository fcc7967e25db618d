-- What a line of generated traffic says. No public clause cites this module.
use Rattle.std.specs.Prelude.{◌≡◌, ℕ, ◌≤◌, ◌<◌, Bool, List, [], ◌∷◌, ◌++◌, length, Some, ⊤}
use Rattle.std.specs.List.{AllByRecursion}
use Rattle.mc_parse.specs.Form.{Ask, asks, form_of}
use Rattle.mc_parse.specs.Need.{ask_need}
use Rattle.zy_frame.specs.Frame.{tail_by}
use Rattle.mc_parse.specs.Plain.{IsOwnAsk}
use Rattle.zy_frame.specs.Cut.{joined}
use Rattle.zy_capture.specs.declared.record.Record.{Record}
use Rattle.zy_capture.specs.declared.record.Record.TheVariants as Kinds
use Rattle.zy_capture.specs.Streams.{stream}
use Rattle.zy_gen.specs.declared.request.Request.{Request}
use Rattle.zy_gen.specs.Traffic.{traffic_key, request_text, IsSmall}

-- ---- bytes

-- each byte is above that of a space
abbrev pub IsSolid : List ℕ → Type 0
IsSolid text = AllByRecursion (λ byte. 33 ≤ byte) text

-- each byte is above that of a line feed
abbrev pub HasNoLineEnd : List ℕ → Type 0
HasNoLineEnd text = AllByRecursion (λ byte. 11 ≤ byte) text

-- a text of at least one byte, each above that of a space
pub record IsSolidWord (text : List ℕ) : Type 0 where
  pub some : 0 < length text
  pub solid : IsSolid text

-- words with one space between each two
abbrev pub spoken : List ℕ → List (List ℕ) → List ℕ
spoken word [] = word
spoken word (next ∷ words) = word ++ 32 ∷ spoken next words

-- ---- keys

-- the key is one of the connection's
pub record IsKeyOf (conn : ℕ) (text : List ℕ) : Type 0 where
  pub item : ℕ
  pub is : text ≡ traffic_key conn item

-- ---- texts

-- a text is a line whose words ask for something at the connection's own keys, with the block that
-- belongs to it
pub record Says (conn : ℕ) (text : List ℕ) : Type 0 where
  pub name : List ℕ
  pub words : List (List ℕ)
  pub after : List ℕ
  pub ask : Ask
  pub quiet : Bool
  pub text_is : text ≡ (spoken name words ++ 13 ∷ []) ++ 10 ∷ after
  pub solid : AllByRecursion IsSolidWord (name ∷ words)
  pub form : form_of (name ∷ words) ≡ asks ask quiet
  pub tail : tail_by (ask_need ask) ≡ Some (length after)
  pub own : IsOwnAsk (IsKeyOf conn) ask

-- a text is a request of the connection
pub record IsOwnText (conn : ℕ) (text : List ℕ) : Type 0 where
  pub item : ℕ
  pub request : Request
  pub small : IsSmall request
  pub is : text ≡ request_text conn item request

-- ---- segments

-- every record is a segment
abbrev pub AreSegments : List Record → Type 0
AreSegments [] = ⊤
AreSegments (Kinds.Segment s ∷ items) = AreSegments items
AreSegments (Kinds.Close conn ∷ items) = ⊥

-- records are segments, and those of a connection join to `n` requests of its own
pub record CarriesRequests (conn n : ℕ) (items : List Record) : Type 0 where
  pub segments : AreSegments items
  pub texts : List (List ℕ)
  pub count : length texts ≡ n
  pub whole : stream conn 0 items ≡ joined texts
  pub each : AllByRecursion (IsOwnText conn) texts
