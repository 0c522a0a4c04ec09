-- The bytes that were decoded lie within the buffer.
use Rattle.std.proofs.Common.{rules}
use Rattle.inspect.specs.Laws.Hexadecimal.{decoded-within}
use Rattle.cli.proofs.input.card_of.Goals as goal

pub returns-in-Ok : goal.returns-in-Ok
returns-in-Ok c =
    let within = decoded-within c.args.name.now c.args.out.now c.in-Ok.length cc in
    search rules
