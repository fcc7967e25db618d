-- Halved texts and headings, as lists.
use Rattle.mc_answered.specs.declared.text.Halved.{Halved}
use Rattle.mc_answered.specs.declared.heading.Heading.{Heading}
use Rattle.mc_answered.specs.Reading.{Halves}
use Rattle.mc_answered.specs.Reading.{Heading as Said}

-- the two parts
abbrev pub halves_seen : Halved → Halves
halves_seen halved = record { front = halved.front.now; rest = halved.rest.now }

-- what the line says
abbrev pub heading_seen : Heading → Said
heading_seen line = record { key = line.key.now; flags = line.flags; count = line.count; unique = line.unique }
