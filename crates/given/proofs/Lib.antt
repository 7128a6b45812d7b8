mod Encoding
