-- The version, the count and the records of a text so far, if it has no fault and gave a record.
use Rattle.std.specs.Prelude.{◌≡◌, ◌⊎◌, ℕ, ◌*◌, ◌^◌, ◌<◌, ◌≤◌, List, ◌++◌, length, Some}
use Rattle.std.specs.Int.{to_be_bytes, w32}
use Rattle.zy_read.specs.Magic.{HasMagic}
use Rattle.zy_capture.specs.Capture.{letters, capture_magic, connection_limit, IsCapture}
use Rattle.zy_capture.specs.Streams.{closes}
use Rattle.zy_capture.specs.Verdict.{version_of, count_of, records_of}
use Rattle.zy_capture.specs.Replies.{IsRepliesFile}
use Rattle.zy_capture.specs.Replies as RepliesText
use Rattle.zy_capture.specs.RepliesVerdict as Replies

-- the version and the count were read, the records are those of a capture, and few of them are closes
pub record IsCaptureSoFar (text : List ℕ) : Type 0 where
  pub version : ℕ
  pub count : ℕ
  pub version_is : version_of text ≡ Some version
  pub count_is : count_of text ≡ Some count
  pub lawful : IsCapture version count (records_of text)
  -- each close took five bytes
  pub spent : (conn : ℕ) → 5 * closes conn (records_of text) ≤ length text
  pub few : (conn : ℕ) → closes conn (records_of text) < 2 ^ 31

-- the text begins with the magic of a version
abbrev pub BeginsWithMagic : List ℕ → ℕ → Type 0
BeginsWithMagic text version = HasMagic letters text version

-- the text begins with a magic and this count, which is not too large
pub record BeginsWithCount (text : List ℕ) (count : ℕ) : Type 0 where
  pub version : ℕ
  pub rest : List ℕ
  pub known : (version ≡ 1) ⊎ (version ≡ 2)
  pub few : count ≤ connection_limit
  pub whole : text ≡ capture_magic version ++ (to_be_bytes w32 count ++ rest)

-- the text begins with the magic of a replies file of a version
abbrev pub BeginsWithRepliesMagic : List ℕ → ℕ → Type 0
BeginsWithRepliesMagic text version = HasMagic RepliesText.letters text version

-- the version was read, and the outputs are those of a replies file
pub record IsRepliesSoFar (text : List ℕ) : Type 0 where
  pub version : ℕ
  pub version_is : Replies.version_of text ≡ Some version
  pub lawful : IsRepliesFile version (Replies.outputs_of text)
