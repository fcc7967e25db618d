-- Byte strings of a known size, as their bytes come.
use Rattle.std.specs.Prelude.{ℕ, ◌-◌, List, length, vec_len, vec_capacity}
use Rattle.zy_base.specs.declared.filling.Form.{Form}
use Rattle.zy_base.specs.declared.filling.Form.TheVariants.{Short, Long}

-- the bytes, in place or in a vector
abbrev pub bytes_so_far : Form → List ℕ
bytes_so_far (Short short) = short
bytes_so_far (Long bytes) = bytes.items

-- the number of further bytes for which there is room
abbrev pub room_left : Form → ℕ
room_left (Short short) = 16 - length short
room_left (Long bytes) = vec_capacity bytes - vec_len bytes
