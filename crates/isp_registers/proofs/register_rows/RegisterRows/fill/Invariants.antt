-- so many are there, and with those that are left there are as many as are asked for
use Rattle.std.proofs.Common.{◌≡◌, ◌-◌, length, map}
use Rattle.isp_lower_code.specs.Rows.{with_many_fresh}
use Rattle.isp_registers.specs.Lookup.{row_of}
use Rattle.isp_registers.proofs.register_rows.RegisterRows.fill.Given as goal

abbrev pub invariant-loop-number : goal.invariant-loop-number
invariant-loop-number l =
    (length l.self ≡ l.number)
    × (with_many_fresh (l.end - l.number) l.elem (map row_of l.self) ≡ with_many_fresh (l.end - length l.initial.self) l.elem (map row_of l.initial.self))
