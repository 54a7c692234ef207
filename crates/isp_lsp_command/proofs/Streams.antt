-- Messages at the front of a stream, one after the other.
use Rattle.std.proofs.Common.{◌≡◌, ◌<◌, ◌≤◌, ◌+◌, ◌-◌, ℕ, List, [], ◌∷◌, ◌++◌, length, map, get_or, take, drop, refl, sym, ap, subst, ◌∙◌, append_assoc, append-nil, arith, length-append, length-drop}
use Rattle.std.specs.Prelude.{slice_range}
use Rattle.std.proofs.lemmas.Grind.{take_at_read}
use Rattle.std.proofs.lemmas.List.{drop-append-le, map-append, take-append-le}
use Rattle.httparse.specs.Grammar.{ReadsSection}
use Rattle.httparse.proofs.GrammarLemmas.{ReadsSection-append}
use Rattle.serde_json.specs.Data.{Data}
use Rattle.serde_json.specs.View.{view}
use Rattle.serde_json.specs.declared.value.Value.{Value}
use Rattle.isp_rpc_frames.specs.Messages.{IsMessage}
use Rattle.isp_server.specs.Connections.{Connection}
use Rattle.isp_server.specs.Sent.{Frames}
use Rattle.isp_server.specs.declared.server.Next.TheVariants.{GoOn}
use Rattle.isp_lsp_command.specs.Sessions.{AllFramed, Begins, Takes, TakesOne}

-- ---- more bytes after a message

-- a message stays where it is when more bytes come
pub message_stays : (bytes more : List ℕ) (start end : ℕ) → IsMessage bytes start end → IsMessage (bytes ++ more) start end
message_stays bytes more start end m = record {
  header = record {
    fields = m.header.fields;
    last = m.header.last;
    reads = subst (ReadsSection (bytes ++ more) m.header.fields m.header.last) (sym (drop-append-le start bytes more m.header.there))
        (ReadsSection-append bytes m.header.fields m.header.last (drop start bytes) more m.header.reads);
    there = let l = length-append bytes more in let h = m.header.there in omega (arith, l, h);
    given = m.header.given;
  };
  ordered = m.ordered;
  there = let l = length-append bytes more in let h = m.there in omega (arith, l, h);
}

-- and so does its content
pub content_stays : (bytes more : List ℕ) (start end : ℕ) → start ≤ end → end ≤ length bytes → slice_range bytes start end ≡ slice_range (bytes ++ more) start end
content_stays bytes more start end h k =
    let l = length-drop start bytes in
    sym (ap (take (end - start)) (drop-append-le start bytes more (omega (arith, h, k))) ∙ take-append-le (end - start) (drop start bytes) more (omega (arith, h, k, l)))

pub begins_more : (input more : List ℕ) (contents : List (List ℕ)) (rest : List ℕ) → Begins input contents rest → Begins (input ++ more) contents (rest ++ more)
begins_more input more [] rest b = ap (λ z. z ++ more) b
begins_more input more (content ∷ others) rest (start, end, m, e, b) = (
  start,
  end,
  message_stays input more start end m,
  e ∙ content_stays input more start end m.ordered m.there,
  subst (λ z. Begins z others (rest ++ more)) (sym (drop-append-le end input more m.there)) (begins_more (drop end input) more others rest b),
)

-- ---- one more message

pub begins_next : (input : List ℕ) (contents : List (List ℕ)) (rest : List ℕ) (start end : ℕ) → Begins input contents rest → IsMessage rest start end
    → Begins input (contents ++ slice_range rest start end ∷ []) (drop end rest)
begins_next input [] rest start end b m = (start, end, subst (λ z. IsMessage z start end) b m, ap (λ z. slice_range z start end) b, ap (drop end) b)
begins_next input (content ∷ others) rest start end (s, t, n, e, b) m = (s, t, n, e, begins_next (drop t input) others rest start end b m)

pub takes_next : (old mid new : Connection) (contents : List (List ℕ)) (content sent more : List ℕ) → Takes old contents mid sent → TakesOne mid content new more GoOn
    → Takes old (contents ++ content ∷ []) new (sent ++ more)
takes_next old mid new [] content sent more (same, none) one =
    (new, more, [], subst (λ c. TakesOne c content new more GoOn) same one, (refl, refl), ap (λ z. z ++ more) none ∙ sym (append-nil more))
takes_next old mid new (c ∷ others) content sent more (m, first, rest, t, ts, e) one =
    (m, first, rest ++ more, t, takes_next m mid new others content rest more ts one, ap (λ z. z ++ more) e ∙ append_assoc first rest more)

pub framed_next : (messages : List Data) (message : Data) (bytes more : List ℕ) → AllFramed messages bytes → Frames message more → AllFramed (messages ++ message ∷ []) (bytes ++ more)
framed_next [] message bytes more none f = (more, [], f, refl, ap (λ z. z ++ more) none ∙ sym (append-nil more))
framed_next (m ∷ others) message bytes more (first, rest, f, fs, e) g =
    (first, rest ++ more, f, framed_next others message rest more fs g, ap (λ z. z ++ more) e ∙ append_assoc first rest more)

-- the next of some values, framed after those before it
pub framed_more : (values : List Value) (i : ℕ) (value : Value) → i < length values → value ≡ get_or values i value → (bytes more new : List ℕ)
    → AllFramed (map view (take i values)) bytes → Frames (view value) more → new ≡ bytes ++ more → AllFramed (map view (take (i + 1) values)) new
framed_more values i value lt is bytes more new all one e =
    let front : take (i + 1) values ≡ take i values ++ value ∷ [] = (take_at_read values i value lt).1 ∙ ap (λ z. take i values ++ z ∷ []) (sym is) in
    let viewed : map view (take (i + 1) values) ≡ map view (take i values) ++ view value ∷ [] = ap (map view) front ∙ map-append view (take i values) (value ∷ []) in
    subst (λ z. AllFramed z new) (sym viewed) (subst (AllFramed (map view (take i values) ++ view value ∷ [])) (sym e) (framed_next (map view (take i values)) (view value) bytes more all one))
