-- When a connection's block is idle, and the mark that is expected of it.
use Rattle.std.specs.Prelude.{◌≡◌, []}
use Rattle.zy_conn.specs.Work.{Mark, Worked, idle, mark_of}
use Rattle.zy_conn.specs.Block.{Blocked}
use Rattle.zy_home.specs.Link.{Link, conn_of}

-- the mark of a block
abbrev pub mark_in : Blocked → Mark
mark_in block = mark_of block.work

-- the mark that is expected of a connection's block: the connection, its event ring, and the texts of its output,
-- which are those ever taken from the block
abbrev pub due_mark : Link → Mark
due_mark l = (conn_of l, (l.inlet.ring, l.output.texts))

-- the block has no event, no command in progress and no pending text, it has taken all that was
-- offered, and no frame waits for it; the output has the block's number of finished commands
pub record IsIdleWith (work : Worked) (l : Link) : Type 0 where
  pub begun : work.begun ≡ idle
  pub known : work.known ≡ []
  pub batch : work.batch ≡ []
  pub taken : work.taken ≡ l.inlet.sent
  pub waiting : l.waiting ≡ []
  pub finished : l.output.finished ≡ work.finished
