-- What layers above may cite of the proofs of this crate; they name no other module of them.

-- ---- registers that are added, those that a walk reserves, and those that are the function's own

pub use Rattle.isp_registers.proofs.Growing.{both_given, gives_none, items_more, kept_same, longer_has, longer_keeps, longer_self, longer_then, row_grows}
pub use Rattle.isp_registers.proofs.There.{all_there, all_joined}
pub use Rattle.isp_registers.proofs.Lookup.{number_below}
-- ---- what is left of the arguments and the values of a call

pub use Rattle.isp_registers.proofs.Walks.{call_view, call_counts, argument_within, arguments_more, later_drop, value_within, values_more}
