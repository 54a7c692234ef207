-- What layers above may cite of the proofs of this crate; they name no other module of them: what is written, one piece after
-- the other, and jumps over a part.

pub use Rattle.isp_lower.proofs.Landing.{appends_self, appends_then, landed, chosen, code_chosen, code_landed}
