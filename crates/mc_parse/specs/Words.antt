-- The words of a line, which spaces part (docs/PROFILE.md, "Lines and words").
use Rattle.std.specs.Prelude.{ℕ, Bool, not, ◌&&◌, ◌==◌, List, codes}
use Rattle.std.specs.List.{list_all}
use Rattle.std.specs.Str.{bytes_eq}
pub use Rattle.zy_base.specs.Limits.{line_limit}
pub use Rattle.mc_meta.specs.Words.{space, put_before, pieces_of, has_byte}
unfoldable pub use Rattle.mc_meta.specs.Words.{words}

-- a text with at least one byte and no space
abbrev pub is_word : List ℕ → Bool
is_word text = has_byte text && list_all (λ byte. not (byte == space)) text

-- the word by which a line asks for no answer
abbrev pub is_noreply : List ℕ → Bool
is_noreply word = bytes_eq word (codes "noreply")
