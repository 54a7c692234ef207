use Rattle.std.proofs.Common.{sym, ◌∙◌}
use Rattle.isp_code.specs.Listing.{routine_of}
use Rattle.isp_code.specs.Registers.{table_of}
use Rattle.isp_verify.proofs.Names.{with_function, fault_step}
use Rattle.isp_verify.proofs.Tables.{at_maps}
use Rattle.isp_verify.proofs.check.first_fault.Goals as goal

pub invariant_of-checker : goal.invariant_of-checker
invariant_of-checker c =
    record {
      table = at_maps table_of routine_of c.functions-functions.result.now c.args.code.now.routines c.args.registers.now c.loop-k.k _ _
          c.loop-k-test.true c.functions-functions.ensures.same c.requires c.index-functions-k.is c.index-registers-k.is;
    }

pub loop-k-preserved : goal.loop-k-preserved
loop-k-preserved c =
    record {
      names = λ w. with_function c.loop-k.names c.insert.new.self c.functions-functions.result.now c.args.code.now.routines c.loop-k.k c.index-functions-k.result c.as_str.result
          c.functions-functions.ensures.same c.loop-k-test.true c.index-functions-k.is c.as_str.ensures c.in_ok-is_new.ensures.updates w (c.loop-k.invariant.names w);
      fault = c.loop-k.invariant.fault ∙ fault_step c.args.code.now c.loop-k.k c.functions-functions.result.now c.index-functions-k.result c.loop-k-test.true c.index-functions-k.is (sym c.in_ok-fault.ensures ∙ c.in_default.is);
    }
