use Rattle.isp_meaning_laws.proofs.MemberWhole.{a_trap_names_a_member}
use Rattle.isp_meaning_laws.proofs.members.a_trap_names_a_member.Goals as goal

pub returns : goal.returns
returns c = a_trap_names_a_member
