-- What layers above may cite of the proofs of this crate; they name no other module of them.
pub use Rattle.isp_steady.proofs.Counts.{plus_lane}
pub use Rattle.isp_steady.proofs.Alones.{one_of}
pub use Rattle.isp_steady.proofs.Linears.{linear_counts_on}
pub use Rattle.isp_steady.proofs.Ones.{both, on_same}
pub use Rattle.isp_steady.proofs.Singles.{array_fine, linear_rate, scalars_are_fine, singled_at, steady_rate}
pub use Rattle.isp_steady.proofs.Standing.{not_more, reach, room_in, stand_in_a_row, widened}
pub use Rattle.isp_steady.proofs.Steadies.{steady_gives_one}
