-- One turn of a connection: a message is answered, or more is read.
use Rattle.std.proofs.Common.{◌≡◌, ◌++◌, ℕ, List, [], Bool, Option, None, Some, false, refl, sym, subst, ap, ◌∙◌, append_assoc, append-nil, drop}
use Rattle.std.specs.Prelude.{⊤, Err, Ok, Result, slice_range}
use Rattle.std.specs.Io.KnownBytes.{Consumes, IsAtEnd}
use Rattle.isp_output.specs.Sinks.{TookAll}
use Rattle.isp_output.proofs.Written.{adds_nil, took_both, took_later}
use Rattle.isp_rpc_frames.specs.Messages.{IsBroken, IsMessage, IsPart}
use Rattle.isp_rpc_frames.specs.declared.frame.FrameFault.{FrameFault}
use Rattle.isp_base.specs.declared.types.Gang.{Gang}
use Rattle.isp_server.specs.Connections.{Connection, IsFresh}
use Rattle.isp_server.specs.declared.server.Next.TheVariants.{End, GoOn}
use Rattle.isp_lsp_command.specs.declared.end.LspEnd.{LspEnd}
use Rattle.isp_lsp_command.specs.declared.end.LspEnd.TheVariants.{Exit, InputEnd, Broken, CannotRead, CannotWrite, Memory}
use Rattle.isp_lsp_command.specs.Ends.{Ends, Serves}
use Rattle.isp_lsp_command.specs.Sessions.{Begins}
use Rattle.isp_lsp_command.specs.reader.Turns.{Answers, Dries, Ended, Fails, Gives, Stands, Turned}
use Rattle.isp_lsp_command.proofs.Streams.{begins_more, begins_next, takes_next}

-- two reads, one after the other
consumes_more : (a b c : Option (List ℕ)) (xs ys : List ℕ) → Consumes a b xs → Consumes b c ys → Consumes a c (xs ++ ys)
consumes_more None b c xs ys h k = tt
consumes_more (Some as') None c xs ys h k = absurd h
consumes_more (Some as') (Some bs) None xs ys h k = absurd k
consumes_more (Some as') (Some bs) (Some cs) xs ys h k = h ∙ ap (λ z. xs ++ z) k ∙ sym (append_assoc xs ys cs)

-- a connection on which nothing has come
pub stands_first : (c : Connection) (had held : Option (List ℕ)) (failed : Bool) → failed ≡ false → Stands c had held c [] had held failed
stands_first c had held failed h = record {
  read = [];
  contents = [];
  sent = [];
  is_read = nothing had;
  begins = refl;
  takes = (refl, refl);
  took = (sym (adds_nil held), h);
}
  where
    nothing : (known : Option (List ℕ)) → Consumes known known []
    nothing None = tt
    nothing (Some xs) = refl

-- ---- a message

-- it is answered, and the connection goes on
pub stands_next : (first c new : Connection) (had held left written now : Option (List ℕ)) (f g : Bool) (unread : List ℕ) (start end : ℕ)
    → IsMessage unread start end → Answers c (slice_range unread start end) new written now g GoOn → Stands first had held c unread left written f
    → Stands first had held new (drop end unread) left now g
stands_next first c new had held left written now f g unread start end m (sent, one, took) s = record {
  read = s.read;
  contents = _;
  sent = s.sent ++ sent;
  is_read = s.is_read;
  begins = begins_next s.read s.contents unread start end s.begins m;
  takes = takes_next first c new s.contents (slice_range unread start end) s.sent sent s.takes one;
  took = took_both s.sent sent held written now f g s.took took;
}

-- it is answered, and the server ends
pub ends_so : (first c new : Connection) (had held left written now : Option (List ℕ)) (f g : Bool) (unread : List ℕ) (start end status : ℕ)
    → IsMessage unread start end → Answers c (slice_range unread start end) new written now g (End status) → Stands first had held c unread left written f
    → Ended first had held left now g (Exit status)
ends_so first c new had held left written now f g unread start end status m (sent, one, took) s = record {
  read = s.read;
  contents = s.contents;
  last = c;
  rest = unread;
  sent = s.sent;
  is_read = s.is_read;
  begins = s.begins;
  takes = s.takes;
  ends = (sent, (start, end, new, m, one), took_both s.sent sent held written now f g s.took took);
}

-- nothing is added
took_none : (sent : List ℕ) (held written now : Option (List ℕ)) (f g : Bool) → TookAll sent held written f → TookAll [] written now g → TookAll sent held now g
took_none sent held written now f g h k = subst (λ z. TookAll z held now g) (append-nil sent) (took_both sent [] held written now f g h k)

-- it is not answered
pub ends_failed : (first c : Connection) (had held left written now : Option (List ℕ)) (f g : Bool) (unread : List ℕ) (start end : ℕ) (e : LspEnd)
    → IsMessage unread start end → Fails c (slice_range unread start end) written now g e → Stands first had held c unread left written f
    → Ended first had held left now g e
ends_failed first c had held left written now f g unread start end e m h s = record {
  read = s.read;
  contents = s.contents;
  last = c;
  rest = unread;
  sent = s.sent;
  is_read = s.is_read;
  begins = s.begins;
  takes = s.takes;
  ends = of e h;
}
  where
    of : (e : LspEnd) → Fails c (slice_range unread start end) written now g e → Ends c unread s.sent (IsAtEnd left) held now g e
    of Memory k = took_none s.sent held written now f g s.took k
    of CannotWrite (new, next, sent, one, took) = (next, sent, (start, end, new, m, one), took_later s.sent sent held written now f g s.took took)
    of (Exit status) k = absurd k
    of InputEnd k = absurd k
    of (Broken fault) k = absurd k
    of CannotRead k = absurd k

-- ---- no message

pub ends_broken : (first c : Connection) (had held left written : Option (List ℕ)) (f : Bool) (unread : List ℕ) (fault : FrameFault)
    → IsBroken unread fault → Stands first had held c unread left written f → Ended first had held left written f (Broken fault)
ends_broken first c had held left written f unread fault b s = record {
  read = s.read;
  contents = s.contents;
  last = c;
  rest = unread;
  sent = s.sent;
  is_read = s.is_read;
  begins = s.begins;
  takes = s.takes;
  ends = (b, s.took);
}

-- more is read, where the bytes that wait are part of a message
pub reads : (first c : Connection) (had held before left written : Option (List ℕ)) (f : Bool) (unread new : List ℕ) (r : Result ⊤ LspEnd)
    → IsPart unread → Gives before left unread new r → Stands first had held c unread before written f → Turned first had held c new left written f r
reads first c had held before left written f unread new (Ok u) part (more, taken, e) s = record {
  read = s.read ++ more;
  contents = s.contents;
  sent = s.sent;
  is_read = consumes_more had before left s.read more s.is_read taken;
  begins = subst (Begins (s.read ++ more) s.contents) (sym e) (begins_more s.read more s.contents unread s.begins);
  takes = s.takes;
  took = s.took;
}
reads first c had held before left written f unread new (Err end) part (more, taken, none, dries) s = record {
  read = s.read ++ more;
  contents = s.contents;
  last = c;
  rest = unread ++ more;
  sent = s.sent;
  is_read = consumes_more had before left s.read more s.is_read taken;
  begins = begins_more s.read more s.contents unread s.begins;
  takes = s.takes;
  ends = of end none dries;
}
  where
    of : (e : LspEnd) → (e ≡ InputEnd → more ≡ []) → Dries left e → Ends c (unread ++ more) s.sent (IsAtEnd left) held written f e
    of InputEnd n d = (subst IsPart (sym (ap (λ z. unread ++ z) (n refl) ∙ append-nil unread)) part, d, s.took)
    of CannotRead n d = s.took
    of Memory n d = s.took
    of (Exit status) n d = absurd d
    of (Broken fault) n d = absurd d
    of CannotWrite n d = absurd d

-- ---- the whole

pub served : (gang : Gang) (version : List ℕ) (first : Connection) (had held left written : Option (List ℕ)) (f : Bool) (end : LspEnd)
    → IsFresh gang version first → Ended first had held left written f end → (read : List ℕ) × Consumes had left read × Serves gang version read (IsAtEnd left) held written f end
served gang version first had held left written f end fresh e = (
  e.read,
  e.is_read,
  record {
    first = first;
    last = e.last;
    contents = e.contents;
    rest = e.rest;
    sent = e.sent;
    is_fresh = fresh;
    begins = e.begins;
    takes = e.takes;
    ends = e.ends;
  },
)

-- after too many turns
pub given_up : (gang : Gang) (version : List ℕ) (first c : Connection) (had held left written : Option (List ℕ)) (f : Bool) (rest : List ℕ)
    → IsFresh gang version first → Stands first had held c rest left written f → (read : List ℕ) × Consumes had left read × Serves gang version read (IsAtEnd left) held written f CannotRead
given_up gang version first c had held left written f rest fresh s = (
  s.read,
  s.is_read,
  record {
    first = first;
    last = c;
    contents = s.contents;
    rest = rest;
    sent = s.sent;
    is_fresh = fresh;
    begins = s.begins;
    takes = s.takes;
    ends = s.took;
  },
)
