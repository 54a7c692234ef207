mod Nowhere
