use Rattle.std.proofs.Common.{ℕ, ◌≤◌, ◌<◌, ◌+◌, ◌^◌, length, arith}
use Rattle.std.specs.Prelude.{decimal}
use Rattle.std.proofs.lemmas.Fmt.{length-decimal-le_wide}
use Rattle.mc_reply.proofs.stats.put_line.Goals as goal

-- a number of 128 bits has up to 39 digits
few_digits : (number : ℕ) → number < 2 ^ 128 → length (decimal number) ≤ 39
few_digits number fits = length-decimal-le_wide 39 number (omega arith) (omega (arith, fits)) (omega (arith, fits))

pub append_wide-requires : goal.append_wide-requires
append_wide-requires c =
    let digits = few_digits c.args.number c.ranges.number.fits in
    let room = c.requires.fits in
    let first : c.args.out.now.room ≤ c.append.new.self.room + 5 = c.append.ensures.room in
    let name = c.stat_name.ensures.short in
    let second = c.append-2.ensures.room in
    let third : c.append-2.new.self.room ≤ c.append-3.new.self.room + 1 = c.append-3.ensures.room in
    record { fits = omega (arith, digits, room, first, name, second, third) }

pub append-requires-4 : goal.append-requires-4
append-requires-4 c =
    let digits = few_digits c.args.number c.ranges.number.fits in
    let room = c.requires.fits in
    let first : c.args.out.now.room ≤ c.append.new.self.room + 5 = c.append.ensures.room in
    let name = c.stat_name.ensures.short in
    let second = c.append-2.ensures.room in
    let third : c.append-2.new.self.room ≤ c.append-3.new.self.room + 1 = c.append-3.ensures.room in
    let fourth = c.append_wide.ensures.room in
    record { fits = omega (arith, digits, room, first, name, second, third, fourth) }

pub returns-clause-room : goal.returns-clause-room
returns-clause-room c =
    let digits = few_digits c.args.number c.ranges.number.fits in
    let first : c.args.out.now.room ≤ c.append.new.self.room + 5 = c.append.ensures.room in
    let name = c.stat_name.ensures.short in
    let second = c.append-2.ensures.room in
    let third : c.append-2.new.self.room ≤ c.append-3.new.self.room + 1 = c.append-3.ensures.room in
    let fourth = c.append_wide.ensures.room in
    let fifth : c.append_wide.new.self.room ≤ c.append-4.new.self.room + 2 = c.append-4.ensures.room in
    omega (arith, digits, first, name, second, third, fourth, fifth)
