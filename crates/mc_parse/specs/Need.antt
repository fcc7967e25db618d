-- What must come with a line before it is a request (docs/PROFILE.md, "Lines and words").
use Rattle.std.specs.Prelude.{ℕ, Bool, true, false, List}
use Rattle.mc_parse.specs.declared.need.Need.{Need}
use Rattle.mc_parse.specs.declared.need.Need.TheVariants.{Nothing, Block, Quit}
use Rattle.mc_parse.specs.declared.name.Name.{Name}
use Rattle.mc_parse.specs.declared.name.Name.TheVariants.{Store, Cas, Quit as QuitName}
use Rattle.mc_parse.specs.MetaAsk.{MetaAsk, meta_stores, meta_exchanges}
use Rattle.mc_parse.specs.Form.{Ask, stores, exchanges, quits, metas, Form, line_form, faulty, asks}

-- what must come with a meta request
abbrev pub meta_need : MetaAsk → Need
meta_need (meta_stores verb key flags bytes marks) = Block bytes
meta_need (meta_exchanges key flags bytes unique marks) = Block bytes
meta_need ask = Nothing

-- what must come with a request
abbrev pub ask_need : Ask → Need
ask_need (stores verb key flags bytes) = Block bytes
ask_need (exchanges key flags bytes unique) = Block bytes
ask_need quits = Quit
ask_need (metas ask) = meta_need ask
ask_need ask = Nothing

-- what a line that says this needs
abbrev pub need_for : Form → Need
need_for (faulty fault) = Nothing
need_for (asks ask quiet) = ask_need ask

-- what a line needs
unfoldable pub need : List ℕ → Need
need line = need_for (line_form line)

-- a line with this name may need something
abbrev pub takes_more : Name → Bool
takes_more (Store verb) = true
takes_more Cas = true
takes_more QuitName = true
takes_more name = false
