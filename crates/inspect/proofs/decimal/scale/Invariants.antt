-- `inspect::decimal::scale` meets its contract: each turn makes one factor of the power. Assumes nothing.
use Prim.Native.Nat.{◌*◌, ◌^◌}
use mathlib.Core.Path.{◌≡◌}
use Rattle.inspect.specs.Decimal.{number, Digits}
use Rattle.inspect.proofs.decimal.scale.Given as goal

abbrev pub invariant-loop : goal.invariant-loop
invariant-loop l = Digits l.digits × (number l.digits ≡ number l.initial.digits * l.by ^ l.counter)
