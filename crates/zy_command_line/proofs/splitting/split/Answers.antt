use Rattle.std.proofs.Common.{◌∙◌, map}
use Rattle.clap.specs.Words.{app_of}
use Rattle.zy_command_line.proofs.Split.{found_all_at, found_none_by}
use Rattle.zy_command_line.proofs.splitting.split.Goals as goal

pub returns-in-Ok : goal.returns-in-Ok
returns-in-Ok c = record {
  value = found_all_at (app_of c.in_ok-command.command) c.args.command.now (map (λ n. n.now) c.args.names.now) (map (λ w. w.now) c.args.words.now) c.in-Ok.matches
      c.in_ok-command.ensures.value c.requires.plain c.in-Ok.ensures.kinds c.in-Ok.ensures.matches;
}

pub returns : goal.returns
returns c = record {
  value = found_none_by (app_of c.in_ok-command.command) c.args.command.now (map (λ n. n.now) c.args.names.now) (map (λ w. w.now) c.args.words.now) c.in-Err.e
      c.in_ok-command.ensures.value c.requires.plain c.in-Err.ensures.kinds (λ memory. c.in_default.not-OutOfMemory (c.kind.ensures ∙ memory));
}
