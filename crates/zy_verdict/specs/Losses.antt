-- The keys whose items a server may lose: those with an exptime, or all.
use Rattle.std.specs.Prelude.{◌≡◌, ◌⊎◌, ℕ, ◌==◌, ◌&&◌, Bool, true, false, not, if◌then◌else◌, List, [], ◌∷◌}
use Rattle.std.specs.Prelude.{Option, None, Some}
use Rattle.std.specs.List.{list_any, Contains}
use Rattle.mc_meta.specs.Meta.{is_meta_name}
use Rattle.mc_parse.specs.Number.{is_zero}
use Rattle.mc_parse.specs.Words.{words}
use Rattle.zy_capture.specs.declared.record.Record.{Record}
use Rattle.zy_capture.specs.Streams.{stream}
use Rattle.zy_frame.specs.declared.frame_kind.FrameKind.{FrameKind}
use Rattle.zy_frame.specs.declared.frame_kind.FrameKind.TheVariants.{Block}
use Rattle.zy_frame.specs.Cut.{frames_of}
use Rattle.zy_verdict.specs.Recorded.{Recorded}

-- ---- exptimes

-- the word is the flag `T` with an exptime other than 0
abbrev pub is_lasting_flag : List ℕ → Bool
is_lasting_flag [] = false
is_lasting_flag (letter ∷ token) = letter == 84 && not (is_zero token)

-- the key, if there is a limit to how long its item lasts
abbrev pub key_if : Bool → List ℕ → Option (List ℕ)
key_if true key = Some key
key_if false key = None

-- the key to which a storage line gives an exptime other than 0: in the flags of `ms`, or as the fourth word of
-- another line
abbrev pub key_of_words : List (List ℕ) → Option (List ℕ)
key_of_words (name ∷ key ∷ size ∷ exptime ∷ words) =
    if is_meta_name name then key_if (list_any is_lasting_flag (exptime ∷ words)) key
    else key_if (not (is_zero exptime)) key
key_of_words words = None

-- the key to which a frame gives an exptime other than 0
abbrev pub key_with_exptime : FrameKind → Option (List ℕ)
key_with_exptime (Block line block) = key_of_words (words line)
key_with_exptime frame = None

-- ---- losses

-- some command of some session gives the key an exptime other than 0
pub record HasExptimeIn (records : List Record) (key : List ℕ) : Type 0 where
  pub conn : ℕ
  pub session : ℕ
  pub frame : FrameKind
  pub sent : Contains (frames_of (stream conn session records)) frame
  pub given : key_with_exptime frame ≡ Some key

-- some command of the recording gives the key an exptime other than 0
abbrev pub HasExptime : Recorded → List ℕ → Type 0
HasExptime r key = HasExptimeIn r.records key

-- the item of the key may be lost at any time: each may be, or some command gives the key an exptime other than 0, or
-- one did so before the recording began
abbrev pub MayLoseAt : Recorded → List ℕ → Type 0
MayLoseAt r key = (r.forget ≡ true) ⊎ (HasExptime r key ⊎ Contains r.lasting key)
