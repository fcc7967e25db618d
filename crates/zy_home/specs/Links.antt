-- The connections of a home without their blocks.
use Rattle.std.specs.Prelude.{◌≡◌, ℕ, List, false, Option, Some, slice_get}
use Rattle.zy_rx.specs.declared.rx.Rx.{Rx}
use Rattle.zy_shuffle.specs.Pass.{Held}
use Rattle.zy_conn.specs.Block.{Blocked}
use Rattle.zy_home.specs.Link.{Link, IsFor, conn_of}
use Rattle.zy_home.specs.declared.links.Links.{Links}
use Rattle.zy_home.specs.Own.{own_conns}
use Rattle.zy_home.specs.Home.{Homed, conns_in}

-- the home of these parts
abbrev pub homed : Held Blocked → List (Option Blocked) → Links → Homed
homed pass blocks l = record {
  core = l.places.core;
  cores = l.places.cores;
  count = l.places.count;
  pass = pass;
  blocks = blocks;
  links = l.items.items;
  ended = l.ended;
  refused = l.refused;
}

-- the item is for the connection at this place, and no end came before it
pub record ComesIn (l : Links) (place : ℕ) (item : Rx) : Type 0 where
  pub live : l.ended ≡ false
  pub link : Link
  pub there : slice_get l.items.items place ≡ Some link
  pub own : IsFor (conn_of link) item

-- the connections are those of their core, by rising number
abbrev pub AreOfCore : Links → Type 0
AreOfCore l = conns_in l.items.items ≡ own_conns l.places.core l.places.cores l.places.count

-- the connections are the same
pub record SameConns (l l' : Links) : Type 0 where
  pub share : l'.places ≡ l.places
  pub conns : conns_in l'.items.items ≡ conns_in l.items.items
