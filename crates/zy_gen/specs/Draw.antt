-- The random numbers of generated traffic, docs/FORMATS.md, "Generated traffic": those of PCG32 on the stream
-- 54, modulo a bound.
use Rattle.std.specs.Prelude.{ℕ, ◌%◌, ◌==◌, nat_lt, if◌then◌else◌, Bool, true, false}
use Rattle.rand_pcg.specs.Lcg.{Lcg, started, increment_of}
use Rattle.rand_pcg.specs.Pcg.{pcg32, multiplier_64}
use Rattle.zy_gen.specs.declared.request.Request.{Request}
use Rattle.zy_gen.specs.declared.request.Request.TheVariants.{Get, GetMany, Set, SetTen, Incr, Append, Delete}
use Rattle.zy_gen.specs.declared.request.Command.{Command}

-- ---- words

-- the generator for a number
abbrev pub words_of : ℕ → Lcg
words_of number = started 64 multiplier_64 number (increment_of 64 54)

-- a number that was drawn, and the generator after it
pub record Drawn : Type 0 where
  pub value : ℕ
  pub left : Lcg

-- the generator's next number, modulo a bound
unfoldable pub draw : ℕ → Lcg → Drawn
draw below words = record { value = (pcg32 words).0 % below; left = (pcg32 words).1 }

-- ---- commands

-- a request that was drawn
pub record DrawnRequest : Type 0 where
  pub request : Request
  pub left : Lcg

-- a command that was drawn
pub record DrawnCommand : Type 0 where
  pub command : Command
  pub left : Lcg

-- a `set`: its flags, and the size of its block
abbrev pub draw_set : Bool → Lcg → DrawnRequest
draw_set quiet words =
    record {
      request = Set (draw 65536 words).value (draw 256 (draw 65536 words).left).value quiet;
      left = (draw 256 (draw 65536 words).left).left;
    }

-- a request that needs no more numbers
abbrev pub plain : Request → Lcg → DrawnRequest
plain request words = record { request = request; left = words }

-- the request of a kind, 0 to 15
abbrev pub draw_request : ℕ → Lcg → DrawnRequest
draw_request kind words =
    if nat_lt kind 8 then plain Get words else if kind == 8 then plain GetMany words
    else if nat_lt kind 11 then draw_set false words else if kind == 11 then draw_set true words
    else if kind == 12 then plain SetTen words else if kind == 13 then plain Incr words
    else if kind == 14 then plain Append words else plain Delete words

-- a command: its kind, the number of its key, and what its kind draws
abbrev pub draw_command : Lcg → DrawnCommand
draw_command words =
    let kind = draw 16 words in
    let item = draw 64 kind.left in
    let request = draw_request kind.value item.left in
    record { command = record { item = item.value; request = request.request }; left = request.left }
