-- Records as their fields in a row: the pairs that forms read, as records and back.
use Rattle.std.specs.Prelude.{ℕ, List}
use Rattle.std.proofs.Math.Option.{Option}
use Rattle.definitions.specs.Tree.{Tree}
use Rattle.definitions.specs.Records.{Hop, Derivation, Relation, Body, Rule, Item, Block, Edition, Pack}

abbrev pub to_hop : ℕ × (ℕ × ℕ) → Hop
to_hop t = record { relation = t.0; current = t.1.0; related = t.1.1 }

abbrev pub of_hop : Hop → ℕ × (ℕ × ℕ)
of_hop h = (h.relation, (h.current, h.related))

abbrev pub ChainRow : Type 0
ChainRow = ℕ × (Option (List Hop) × (ℕ × ℕ))

abbrev pub MemberRow : Type 0
MemberRow = ℕ × (ℕ × (List ℕ × Tree))

abbrev pub to_derivation : ChainRow × MemberRow → Derivation
to_derivation t =
    record {
      source = t.0.0;
      path = t.0.1.0;
      current = t.0.1.1.0;
      related = t.0.1.1.1;
      entity = t.1.0;
      member = t.1.1.0;
      slot_entities = t.1.1.1.0;
      predicate = t.1.1.1.1;
    }

abbrev pub of_derivation : Derivation → ChainRow × MemberRow
of_derivation d = ((d.source, (d.path, (d.current, d.related))), (d.entity, (d.member, (d.slot_entities, d.predicate))))

abbrev pub RelationTail : Type 0
RelationTail = ℕ × (ℕ × (List ℕ × Option Derivation))

abbrev pub to_relation : ℕ × RelationTail → Relation
to_relation t = record { name = t.0; origin = t.1.0; arity = t.1.1.0; slot_kinds = t.1.1.1.0; derivation = t.1.1.1.1 }

abbrev pub of_relation : Relation → ℕ × RelationTail
of_relation r = (r.name, (r.origin, (r.arity, (r.slot_kinds, r.derivation))))

abbrev pub to_body : ℕ × Tree → Body
to_body t = record { sort = t.0; tree = t.1 }

abbrev pub of_body : Body → ℕ × Tree
of_body b = (b.sort, b.tree)

abbrev pub to_rule : ℕ × (ℕ × (ℕ × (Body × List Body))) → Rule
to_rule t = record { citing = t.0; origin = t.1.0; entity = t.1.1.0; semantics = t.1.1.1.0; versions = t.1.1.1.1 }

abbrev pub of_rule : Rule → ℕ × (ℕ × (ℕ × (Body × List Body)))
of_rule r = (r.citing, (r.origin, (r.entity, (r.semantics, r.versions))))

abbrev pub to_item : ℕ × (ℕ × ℕ) → Item
to_item t = record { name = t.0; boolean = t.1.0; entity = t.1.1 }

abbrev pub of_item : Item → ℕ × (ℕ × ℕ)
of_item i = (i.name, (i.boolean, i.entity))

abbrev pub to_block : ℕ × Option (List Item) → Block
to_block t = record { origin = t.0; items = t.1 }

abbrev pub of_block : Block → ℕ × Option (List Item)
of_block b = (b.origin, b.items)

abbrev pub RecordsRow : Type 0
RecordsRow = List ℕ × (List Relation × (List Rule × List Block))

abbrev pub of_row : Edition → ℕ × RecordsRow → Pack
of_row e t = record { edition = e; names = t.0; defaulted = t.1.0; relations = t.1.1.0; rules = t.1.1.1.0; blocks = t.1.1.1.1 }

abbrev pub to_row : Pack → ℕ × RecordsRow
to_row p = (p.names, (p.defaulted, (p.relations, (p.rules, p.blocks))))
